-- A flat list of rows, filled row after row, and one row of it, of which a place is set. Assumes nothing.
use Prim.Native.Nat.{ℕ, zero, suc, ◌+◌, ◌*◌, ◌-◌, ◌≤◌, ◌<◌}
use mathlib.Core.Path.{◌≡◌, refl, sym, ap₂, ◌∙◌, subst}
use mathlib.Core.List.{List, ◌++◌, append_assoc}
use mathlib.Core.Logic.{⊎_elim}
use native.Mathlib.Nat.{eq-or-lt_of_le, not-suc-le-zero, le_of_suc-le-suc, mul-le-mul_right, suc-mul, zero-mul, add-sub_cancel_left}
use native.Mathlib.Numerals.{add-one}
use native.Mathlib.Omega.{arith}
use lib.IntN.{ℤ, pos}
use lib.ListN.{length, set, take, drop, get_or, length-append, length-take, length-drop, get_or-append}
use lib.Seq.{get_or-take, get_or-drop, take_at, drop_at, drop-drop, get_or-append-add, take-set-le, take-set-lt, drop-set-lt, drop-set-add}
use Rattle.lists.specs.Tab.{cat}
use Rattle.lists.specs.Grid.{row_of}

-- row y of a picture w wide lies within its first h rows
pub row_in : (w h y : ℕ) → y < h → y * w + w ≤ h * w
row_in w h y l = subst (λ (k : ℕ). k ≤ h * w) (suc-mul y w) (mul-le-mul_right w l)

module _ {A : Type 0} (r : ℕ → List A) where
  module _ (w H : ℕ) (rl : (y : ℕ) → y < H → length (r y) ≡ w) where
    pub cat-length : (n : ℕ) → n ≤ H → length (cat r n) ≡ n * w
    unfolding cat
    cat-length zero h = sym (zero-mul w)
    cat-length (suc n) h =
        length-append (cat r n) (r n) ∙ ap₂ (λ (a b : ℕ). a + b) (cat-length n (omega arith)) (rl n h) ∙ sym (suc-mul n w)

    -- a row is put behind the rows that stand
    pub cat_more : (n a : ℕ) (d : List A) → n ≤ H → a ≡ n * w
        → take a (cat r n ++ drop a d) ++ (r n ++ drop w (drop a (cat r n ++ drop a d))) ≡ cat r (n + 1) ++ drop ((n + 1) * w) d
    unfolding cat
    cat_more n a d h e =
        rw (
          add-one,
          take_at (cat r n) (drop a d) a (cat-length n h ∙ sym e),
          drop_at (cat r n) (drop a d) a (cat-length n h ∙ sym e),
          drop-drop w a d,
          suc-mul n w,
          e,
          append_assoc,
        )
        refl

    -- place x of row y
    pub cat_at : (n y x : ℕ) (z : A) → n ≤ H → y < n → x < w → get_or (cat r n) (y * w + x) z ≡ get_or (r y) x z
    unfolding cat
    cat_at zero y x z h k l = absurd (not-suc-le-zero k)
    cat_at (suc n) y x z h k l =
        ⊎_elim
        (λ (e : y ≡ n). rw (e, ← cat-length n (omega arith)) (get_or-append-add (cat r n) (r n) x z))
        (λ (lt : y < n).
        get_or-append (cat r n) (r n) z (y * w + x) (omega (arith, cat-length n (omega arith), row_in w n y lt))
        ∙ cat_at n y x z (omega arith) lt l)
        (eq-or-lt_of_le (le_of_suc-le-suc k))

-- place k of a part is place a + k of the whole
pub part_at : {A : Type 0} (a e : ℕ) (xs : List A) (k : ℕ) (z : A) → k < e - a → get_or (take (e - a) (drop a xs)) k z ≡ get_or xs (a + k) z
part_at a e xs k z l = get_or-take (e - a) (drop a xs) k z l ∙ get_or-drop a xs k z

-- ---- row i of rows of n, which stand one after the other from the start of t
module _ (n : ℕ) (t : List ℤ) (i : ℕ) where
  pub row_length : (rows : ℕ) → i < rows → rows * n ≤ length t → length (row_of n t i) ≡ n
  unfolding row_of
  row_length rows l room = simp (length-take, length-drop) (omega (arith, row_in n rows i l))

  pub row_at : (k p : ℕ) → k < n → p ≡ i * n + k → get_or t p (pos 0) ≡ get_or (row_of n t i) k (pos 0)
  unfolding row_of
  row_at k p l e = rw e (sym (get_or-take n (drop (i * n) t) k (pos 0) l ∙ get_or-drop (i * n) t k (pos 0)))

  -- the part from i·n on to i·n + n
  pub row_part : take (i * n + n - i * n) (drop (i * n) t) ≡ row_of n t i
  unfolding row_of
  row_part = rw (add-sub_cancel_left (i * n) n) refl

  -- a place is set: of the row itself, of a row before it, of one after it
  pub row_set : (k p : ℕ) (v : ℤ) → k < n → p ≡ i * n + k → row_of n (set t p v) i ≡ set (row_of n t i) k v
  unfolding row_of
  row_set k p v l e = rw (e, drop-set-add (i * n) t k v, take-set-lt n (drop (i * n) t) k v l) refl

  pub row_set_before : (p : ℕ) (v : ℤ) → p < i * n → row_of n (set t p v) i ≡ row_of n t i
  unfolding row_of
  row_set_before p v l = rw (drop-set-lt (i * n) t p v l) refl

  pub row_set_after : (p : ℕ) (v : ℤ) → i * n + n ≤ p → row_of n (set t p v) i ≡ row_of n t i
  unfolding row_of
  row_set_after p v l =
      let e : p ≡ i * n + (p - i * n) = omega arith in
      let m : n ≤ p - i * n = omega arith in
      rw e (rw (drop-set-add (i * n) t (p - i * n) v, take-set-le n (drop (i * n) t) (p - i * n) v m) refl)
