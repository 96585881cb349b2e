-- A picture that is written patch by patch: one run of a row is a patch, two that lie side by side or one below the other are one, and the patch of all rows and
-- columns is the picture with what stood behind it. Assumes nothing.
use Prim.Native.Nat.{ℕ, ◌+◌, ◌*◌, ◌-◌, ◌/◌, ◌%◌, ◌≤◌, ◌<◌}
use mathlib.Core.Path.{◌≡◌, refl, sym, ap, ◌∙◌, subst}
use mathlib.Core.List.{List, ◌++◌}
use mathlib.Core.Bool.{Bool, true, false}
use native.Mathlib.Nat.{not-suc-le-zero, div-add-mod', mod-lt, div-lt_iff_lt-mul, add-zero, zero-add, mul_comm}
use native.Mathlib.Omega.{arith}
use borrow.Author.Tests.{ltb-true, ltb-false}
use borrow.Rule.Slice.PartMut.{put_mid, mid_len, same_len_mid}
use lib.Dec.{ltb}
use lib.IntN.{ℤ, pos}
use lib.ListN.{length, drop, length-append, length-drop}
use lib.Seq.{ext_get_or, get_or-append-add, get_or-drop}
use Rattle.lists.specs.Line.{line}
use Rattle.lists.specs.Picture.{Picture, pictured}
use Rattle.lists.proofs.Tab.{tab-place}
use Rattle.lists.proofs.Rows.{row_in}
use Rattle.lists.proofs.Part.{part_before, part_in, part_after}
use Rattle.lists.proofs.Grid.{one_place}
use Rattle.lists.proofs.Picture.{length-pictured}
use Rattle.arrangements.specs.Patches.{Patch}

-- a number is below another or not
below_or_not : {A : Type 0} (a b : ℕ) → (a < b → A) → (b ≤ a → A) → A
below_or_not {A} a b f g = go (ltb a b) refl
  where
    go : (t : Bool) → ltb a b ≡ t → A
    go true e = f (ltb-true a b e)
    go false e = g (ltb-false a b e)

module _ (W : ℕ) where
  -- nothing is written yet: no column, no row
  pub patch_no_column : (x y h : ℕ) (p : Picture) (d : List ℤ) → Patch W x 0 y h p d d
  patch_no_column x y h p d = record { long = refl; inside = λ i k m l. absurd (not-suc-le-zero l); outside = λ q f. refl }

  pub patch_no_row : (x n y : ℕ) (p : Picture) (d : List ℤ) → Patch W x n y 0 p d d
  patch_no_row x n y p d = record { long = refl; inside = λ i k m l. absurd (not-suc-le-zero m); outside = λ q f. refl }

  -- the same samples
  pub patch_cong : {x n y h : ℕ} (p p' : Picture) {old new : List ℤ} → ((i k : ℕ) → i < h → k < n → p i k ≡ p' i k) → Patch W x n y h p old new → Patch W x n y h p' old new
  patch_cong p p' same a = record { long = a.long; inside = λ i k m l. a.inside i k m l ∙ same i k m l; outside = a.outside }

  -- a part of a row that is put back
  pub patch_run : (x n y a : ℕ) (p : Picture) (old run : List ℤ) → a ≡ y * W + x → a + n ≤ length old → length run ≡ n
      → ((k : ℕ) → k < n → line run k ≡ p 0 k) → Patch W x n y 1 p old (put_mid a (a + n - a) old run)
  patch_run x n y a p old run ea room long same =
      record {
        long = same_len_mid a (a + n - a) old run (omega (arith, mid_len a (a + n) old room));
        inside = λ i k m l. ap (line (put_mid a (a + n - a) old run)) (place i k m) ∙ part_in a (a + n - a) old run (pos 0) (omega arith) (omega arith) k (omega arith) ∙ same k l ∙ ap (λ (j : ℕ). p j k) (first i m);
        outside = λ q f.
            below_or_not q a (λ low. part_before a (a + n - a) old run (pos 0) (omega arith) (omega arith) q low)
            (λ high. below_or_not q (a + n)
            (λ low. absurd (f 0 (q - a) (omega arith) (omega arith) (among q high)))
            (λ past. ap (line (put_mid a (a + n - a) old run)) (beyond q past) ∙ part_after a (a + n - a) old run (pos 0) (omega arith) (omega arith) (q - (a + n)) ∙ ap (line old) (sym (beyond q past))));
      }
    where
      first : (i : ℕ) → i < 1 → 0 ≡ i
      first i m = omega arith

      place : (i k : ℕ) → i < 1 → (y + i) * W + (x + k) ≡ a + k
      place i k m = subst (λ (j : ℕ). (y + j) * W + (x + k) ≡ a + k) (first i m) (omega arith)

      among : (q : ℕ) → a ≤ q → q ≡ (y + 0) * W + (x + (q - a))
      among q high = omega arith

      beyond : (q : ℕ) → a + n ≤ q → q ≡ a + (a + n - a) + (q - (a + n))
      beyond q past = omega arith

  -- m columns more, to the right
  pub patch_right : (x n m y h : ℕ) (p : Picture) (old mid new : List ℤ) → x + n + m ≤ W → Patch W x n y h p old mid
      → Patch W (x + n) m y h (λ i k. p i (n + k)) mid new → Patch W x (n + m) y h p old new
  patch_right x n m y h p old mid new fits a b =
      record {
        long = b.long ∙ a.long;
        inside = λ i k lh l. below_or_not k n (λ low. left i k lh low) (λ high. right i k lh high l);
        outside = λ q f. b.outside q (λ i k lh l e. f i (n + k) lh (omega arith) (omega arith)) ∙ a.outside q (λ i k lh l e. f i k lh (omega arith) e);
      }
    where
      left : (i k : ℕ) → i < h → k < n → line new ((y + i) * W + (x + k)) ≡ p i k
      left i k lh l = b.outside ((y + i) * W + (x + k)) (λ j z lj lz e. apart j z lz e) ∙ a.inside i k lh l
        where
          apart : (j z : ℕ) → z < m → (y + i) * W + (x + k) ≡ (y + j) * W + (x + n + z) → ⊥
          apart j z lz e = omega (arith, (one_place W (y + i) (y + j) (x + k) (x + n + z) (omega arith) (omega arith) e).1)

      right : (i k : ℕ) → i < h → n ≤ k → k < n + m → line new ((y + i) * W + (x + k)) ≡ p i k
      right i k lh high l =
          ap (λ (c : ℕ). line new ((y + i) * W + c)) (across k high) ∙ b.inside i (k - n) lh (omega arith) ∙ ap (p i) (along k high)
        where
          across : (k : ℕ) → n ≤ k → x + k ≡ x + n + (k - n)
          across k high = omega arith

          along : (k : ℕ) → n ≤ k → n + (k - n) ≡ k
          along k high = omega arith

  -- m rows more, below
  pub patch_down : (x n y h m : ℕ) (p : Picture) (old mid new : List ℤ) → x + n ≤ W → Patch W x n y h p old mid
      → Patch W x n (y + h) m (λ i k. p (h + i) k) mid new → Patch W x n y (h + m) p old new
  patch_down x n y h m p old mid new fits a b =
      record {
        long = b.long ∙ a.long;
        inside = λ i k l lk. below_or_not i h (λ low. above i k low lk) (λ high. under i k high l lk);
        outside = λ q f. b.outside q (λ i k l lk e. f (h + i) k (omega arith) lk (e ∙ deeper i k)) ∙ a.outside q (λ i k l lk e. f i k (omega arith) lk e);
      }
    where
      deeper : (i k : ℕ) → (y + h + i) * W + (x + k) ≡ (y + (h + i)) * W + (x + k)
      deeper i k = ap (λ (r : ℕ). r * W + (x + k)) (omega arith)

      above : (i k : ℕ) → i < h → k < n → line new ((y + i) * W + (x + k)) ≡ p i k
      above i k l lk = b.outside ((y + i) * W + (x + k)) (λ j z lj lz e. apart j z lz e) ∙ a.inside i k l lk
        where
          apart : (j z : ℕ) → z < n → (y + i) * W + (x + k) ≡ (y + h + j) * W + (x + z) → ⊥
          apart j z lz e = omega (arith, (one_place W (y + i) (y + h + j) (x + k) (x + z) (omega arith) (omega arith) e).0)

      under : (i k : ℕ) → h ≤ i → i < h + m → k < n → line new ((y + i) * W + (x + k)) ≡ p i k
      under i k high l lk =
          ap (λ (r : ℕ). line new (r * W + (x + k))) (across i high) ∙ b.inside (i - h) k (omega arith) lk ∙ ap (λ (r : ℕ). p r k) (along i high)
        where
          across : (i : ℕ) → h ≤ i → y + i ≡ y + h + (i - h)
          across i high = omega arith

          along : (i : ℕ) → h ≤ i → h + (i - h) ≡ i
          along i high = omega arith

  -- one row more: a part that is put back below them
  pub patch_row : (x n y h a : ℕ) (p : Picture) (old mid run : List ℤ) → x + n ≤ W → a ≡ (y + h) * W + x → a + n ≤ length old → length run ≡ n
      → ((k : ℕ) → k < n → line run k ≡ p h k) → Patch W x n y h p old mid → Patch W x n y (h + 1) p old (put_mid a (a + n - a) mid run)
  patch_row x n y h a p old mid run fits ea room long same q =
      patch_down x n y h 1 p old mid (put_mid a (a + n - a) mid run) fits q
      (patch_run x n (y + h) a (λ i k. p (h + i) k) mid run ea (omega (arith, q.long)) long (λ k l. same k l ∙ ap (λ (i : ℕ). p i k) (sym (add-zero h))))

  -- the next columns of a picture that is written from its left edge on, and the next rows of one that is written from its top
  pub patch_columns : (n m y h : ℕ) (p : Picture) (old mid new : List ℤ) → n + m ≤ W → Patch W 0 n y h p old mid → Patch W n m y h (λ i k. p i (n + k)) mid new
      → Patch W 0 (n + m) y h p old new
  patch_columns n m y h p old mid new fits a b =
      patch_right 0 n m y h p old mid new (omega arith) a (subst (λ (x : ℕ). Patch W x m y h (λ i k. p i (n + k)) mid new) (sym (zero-add n)) b)

  pub patch_rows : (x n h m : ℕ) (p : Picture) (old mid new : List ℤ) → x + n ≤ W → Patch W x n 0 h p old mid → Patch W x n h m (λ i k. p (h + i) k) mid new
      → Patch W x n 0 (h + m) p old new
  patch_rows x n h m p old mid new fits a b =
      patch_down x n 0 h m p old mid new fits a (subst (λ (y : ℕ). Patch W x n y m (λ i k. p (h + i) k) mid new) (sym (zero-add h)) b)

  -- every row and every column: the whole picture, with what stood behind it
  pub patch_whole : (H : ℕ) (p : Picture) (old new : List ℤ) → 0 < W → W * H ≤ length old → Patch W 0 W 0 H p old new
      → new ≡ pictured W H p ++ drop (W * H) old
  unfolding pictured
  patch_whole H p old new some room a =
      ext_get_or (pos 0) new (pictured W H p ++ drop (W * H) old) (a.long ∙ sym long)
      (λ q l. below_or_not q (W * H)
      (λ low. at q low ∙ sym (tab-place (λ i. p (i / W) (i % W)) (W * H) q old (pos 0) low))
      (λ high. past q high ∙ sym (rest q high)))
    where
      long : length (pictured W H p ++ drop (W * H) old) ≡ length old
      long = simp (length-append, length-drop, length-pictured) (omega arith)

      at : (q : ℕ) → q < W * H → line new q ≡ p (q / W) (q % W)
      at q low =
          ap (line new) (sym (div-add-mod' q W))
          ∙ rw (zero-add (q / W), zero-add (q % W)) at (a.inside (q / W) (q % W) ((div-lt_iff_lt-mul some).1 (subst (λ (n : ℕ). q < n) (mul_comm W H) low)) (mod-lt q some))

      past : (q : ℕ) → W * H ≤ q → line new q ≡ line old q
      past q high = a.outside q (λ i k l lk e. omega (arith, row_in W H i l))

      rest : (q : ℕ) → W * H ≤ q → line (pictured W H p ++ drop (W * H) old) q ≡ line old q
      rest q high =
          ap (line (pictured W H p ++ drop (W * H) old)) (ahead (length-pictured W H p))
          ∙ get_or-append-add (pictured W H p) (drop (W * H) old) (q - W * H) (pos 0)
          ∙ get_or-drop (W * H) old (q - W * H) (pos 0)
          ∙ ap (line old) back
        where
          ahead : length (pictured W H p) ≡ W * H → q ≡ length (pictured W H p) + (q - W * H)
          ahead e = omega arith

          back : W * H + (q - W * H) ≡ q
          back = omega arith
