-- Lines laid side by side. Place by place or line after line, the picture is the same. Assumes nothing.
use Prim.Native.Nat.{ℕ, zero, suc, ◌+◌, ◌*◌, ◌-◌, ◌≤◌, ◌<◌}
use mathlib.Core.Path.{◌≡◌, refl, sym, ap, ◌∙◌}
use mathlib.Core.List.{List}
use native.Mathlib.Numerals.{add-one}
use mathlib.Core.Logic.{⊎_elim}
use native.Mathlib.Nat.{add-zero, add-mul, not-suc-le-zero, eq-or-lt_of_le, le_of_suc-le-suc}
use native.Mathlib.Omega.{arith}
use lib.ListN.{set, length, get_or}
use lib.Seq.{set_comm}
use lib.IntN.{ℤ, pos}
use Rattle.lists.specs.Grid.{line_of, put, passed, Lines}
use Rattle.lists.proofs.Rows.{row_in}
use Rattle.lists.proofs.Grid.{put_cong, put-length, put_same, put_other, one_place, line_of_cong, lines_within, ahead, passed_more}
use Rattle.grid.specs.Four.{laid}

pub laid_none : (at along across n : ℕ) (g : ℕ → ℕ → ℤ) (pic : List ℤ) → pic ≡ laid at along across n g 0 pic
unfolding laid
laid_none at along across n g pic = refl

-- ---- the loop that lays lines
pub laid_more : (at along across n : ℕ) (g : ℕ → ℕ → ℤ) (m : ℕ) (pic now next : List ℤ) (line : ℕ → ℤ)
    → now ≡ laid at along across n g m pic
    → next ≡ put (at + m * across) along line n now
    → ((k : ℕ) → k < n → line k ≡ g m k)
    → next ≡ laid at along across n g (m + 1) pic
unfolding laid
laid_more at along across n g m pic now next line e step same =
    step ∙ put_cong (at + m * across) along line (g m) n now same ∙ rw (e, add-one) refl

pub laid_cong : (at along across n : ℕ) (f g : ℕ → ℕ → ℤ) (m : ℕ) (pic : List ℤ) → ((i k : ℕ) → i < m → k < n → f i k ≡ g i k)
    → laid at along across n f m pic ≡ laid at along across n g m pic
unfolding laid
laid_cong at along across n f g zero pic same = refl
laid_cong at along across n f g (suc m) pic same =
    ap (put (at + m * across) along (f m) n) (laid_cong at along across n f g m pic (λ i k l h. same i k (omega arith) h))
    ∙ put_cong (at + m * across) along (f m) (g m) n (laid at along across n g m pic) (λ k h. same m k (omega arith) h)

-- a place of lines that lie inside `size` places from `at` on
pub laid_inside : {n m along across size : ℕ} (at : ℕ) → Lines n m along across (size - at)
    → (i k : ℕ) → i < m → k < n → at + k * along + i * across < size
laid_inside at g i k l h = omega (arith, g.inside i k l h)

-- ---- lines that share no place may be put in either order
put-set : (at along : ℕ) (g : ℕ → ℤ) (n : ℕ) (l : List ℤ) (p : ℕ) (v : ℤ) → ((k : ℕ) → k < n → p ≡ at + k * along → ⊥)
    → put at along g n (set l p v) ≡ set (put at along g n l) p v
unfolding put
put-set at along g zero l p v h = refl
put-set at along g (suc n) l p v h =
    ap (λ (t : List ℤ). set t (at + n * along) (g n)) (put-set at along g n l p v (λ k b e. h k (omega arith) e))
    ∙ set_comm (put at along g n l) p (at + n * along) v (g n) (λ e. h n (omega arith) e)

put-put : (a r : ℕ) (g : ℕ → ℤ) (n b s : ℕ) (h : ℕ → ℤ) (m : ℕ) (l : List ℤ) → ((i k : ℕ) → i < m → k < n → b + i * s ≡ a + k * r → ⊥)
    → put a r g n (put b s h m l) ≡ put b s h m (put a r g n l)
unfolding put
put-put a r g n b s h zero l apart = refl
put-put a r g n b s h (suc m) l apart =
    put-set a r g n (put b s h m l) (b + m * s) (h m) (λ k c e. apart m k (omega arith) c e)
    ∙ ap (λ (t : List ℤ). set t (b + m * s) (h m)) (put-put a r g n b s h m l (λ i k d c e. apart i k (omega arith) c e))

-- ---- so lines that lie apart may be laid place by place
module _ (at along across size : ℕ) (g : ℕ → ℕ → ℤ) (pic : List ℤ) where
  -- place n of m lines
  placed : ℕ → ℕ → List ℤ → List ℤ
  placed n m = put (at + n * along) across (λ (i : ℕ). g i n) m

  -- lines of one more place
  wider : (n m : ℕ) → Lines (suc n) m along across size → laid at along across (suc n) g m pic ≡ placed n m (laid at along across n g m pic)
  unfolding laid put placed
  wider n zero h = refl
  wider n (suc m) h =
      ap (λ (t : List ℤ). last (line t)) (wider n m (lines_within (omega arith) (omega arith) h))
      ∙ ap last (put-put (at + m * across) along (g m) n (at + n * along) across (λ (i : ℕ). g i n) m before other)
      ∙ ap (λ (p : ℕ). set (placed n m (line before)) p (g m n)) (omega arith)
    where
      before : List ℤ
      before = laid at along across n g m pic

      -- the first n places of line m, and its place n
      line : List ℤ → List ℤ
      line = put (at + m * across) along (g m) n

      last : List ℤ → List ℤ
      last t = set t (at + m * across + n * along) (g m n)

      other : (i k : ℕ) → i < m → k < n → at + n * along + i * across ≡ at + m * across + k * along → ⊥
      other i k c d e = omega (arith, (h.apart i m n k (omega arith) (omega arith) (omega arith) (omega arith) (omega arith)).0)

  empty : (m : ℕ) → laid at along across 0 g m pic ≡ pic
  unfolding laid put
  empty zero = refl
  empty (suc m) = empty m

  pub laid-turned : (n m : ℕ) → Lines n m along across size
      → laid at along across n g m pic ≡ laid at across along m (λ (k i : ℕ). g i k) n pic
  unfolding laid placed
  laid-turned zero m h = empty m
  laid-turned (suc n) m h = wider n m h ∙ ap (placed n m) (laid-turned n m (lines_within (omega arith) (omega arith) h))

-- ---- lines laid in rows of m places, each from place `first` of its row on: what stands where
pub laid-length : (at along across n : ℕ) (g : ℕ → ℕ → ℤ) (m : ℕ) (pic : List ℤ) → length (laid at along across n g m pic) ≡ length pic
unfolding laid
laid-length at along across n g zero pic = refl
laid-length at along across n g (suc m) pic = put-length (at + m * across) along (g m) n _ ∙ laid-length at along across n g m pic

module _ (first m n : ℕ) (g : ℕ → ℕ → ℤ) (work : List ℤ) (fits : first + n ≤ m) where
  pub laid_in : (rows i k : ℕ) → i < rows → k < n → rows * m ≤ length work → get_or (laid first 1 m n g rows work) (i * m + (first + k)) (pos 0) ≡ g i k
  unfolding laid
  laid_in zero i k l h room = absurd (not-suc-le-zero l)
  laid_in (suc rows) i k l h room =
      ⊎_elim
      (λ (e : i ≡ rows).
      rw e
      (ap (λ (p : ℕ). get_or (put (first + rows * m) 1 (g rows) n before) p (pos 0)) (place rows)
      ∙ put_same (first + rows * m) 1 (g rows) n before k h (λ j b. rw before_length (omega (arith, row_in m (suc rows) rows (omega arith)))) (λ a b c d q. omega arith)))
      (λ (lt : i < rows).
      put_other (first + rows * m) 1 (g rows) n before (i * m + (first + k))
      (λ j b e. other lt (one_place m i rows (first + k) (first + j) (omega arith) (omega arith) (e ∙ order rows j)).0)
      ∙ laid_in rows i k lt h (omega (arith, row_in m (suc rows) rows (omega arith))))
      (eq-or-lt_of_le (le_of_suc-le-suc l))
    where
      before : List ℤ
      before = laid first 1 m n g rows work

      before_length : length before ≡ length work
      before_length = laid-length first 1 m n g rows work

      place : (rows : ℕ) → rows * m + (first + k) ≡ first + rows * m + k * 1
      place rows = omega arith

      order : (rows j : ℕ) → first + rows * m + j * 1 ≡ rows * m + (first + j)
      order rows j = omega arith

      other : i < rows → i ≡ rows → ⊥
      other a e = omega arith

  pub laid_out : (rows i j : ℕ) → j < m → ((k : ℕ) → k < n → j ≡ first + k → ⊥) → get_or (laid first 1 m n g rows work) (i * m + j) (pos 0) ≡ get_or work (i * m + j) (pos 0)
  unfolding laid
  laid_out zero i j l out = refl
  laid_out (suc rows) i j l out =
      put_other (first + rows * m) 1 (g rows) n _ (i * m + j)
      (λ k b e. out k b (one_place m i rows j (first + k) l (omega arith) (e ∙ order rows k)).1)
      ∙ laid_out rows i j l out
    where
      order : (rows k : ℕ) → first + rows * m + k * 1 ≡ rows * m + (first + k)
      order rows k = omega arith

-- ---- after the first y lines were replaced, the next m may be, all from the picture as it stands then
module _ (n lines along across : ℕ) (f : ℕ → List ℤ → ℕ → ℤ) (pic : List ℤ) (g : Lines n lines along across (length pic)) where
  pub laid-passed : (y m : ℕ) (now : List ℤ) → y + m ≤ lines → now ≡ passed n along across f y pic
      → laid (y * across) along across n (λ (i : ℕ). f (y + i) (line_of (y * across + i * across) along n now)) m now
      ≡ passed n along across f (y + m) pic
  unfolding laid
  laid-passed y zero now h e = e ∙ ap (λ (z : ℕ). passed n along across f z pic) (sym (add-zero y))
  laid-passed y (suc m) now h e =
      ap (put (y * across + m * across) along (f (y + m) (line_of (y * across + m * across) along n now)) n) (laid-passed y m now (omega arith) e)
      ∙ ap (λ (p : ℕ). put p along (f (y + m) (line_of p along n now)) n after) (sym (add-mul y m across))
      ∙ ap (λ (s : List ℤ). put ((y + m) * across) along (f (y + m) s) n after) same
      ∙ passed_next
    where
      after : List ℤ
      after = passed n along across f (y + m) pic

      -- line y + m is not touched yet
      same : line_of ((y + m) * across) along n now ≡ line_of ((y + m) * across) along n after
      same =
          ap (line_of ((y + m) * across) along n) e
          ∙ line_of_cong ((y + m) * across) along n (passed n along across f y pic) after
          (λ k l. ahead n lines along across f (length pic) g y pic (y + m) (omega arith) (omega arith) k l
          ∙ sym (ahead n lines along across f (length pic) g (y + m) pic (y + m) (omega arith) (omega arith) k l))

      passed_next : put ((y + m) * across) along (f (y + m) (line_of ((y + m) * across) along n after)) n after
          ≡ passed n along across f (y + suc m) pic
      passed_next =
          passed_more n along across f (y + m) n pic after _ refl refl refl
          ∙ ap (λ (z : ℕ). passed n along across f z pic) (omega arith)
