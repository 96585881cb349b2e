-- The smallest is not above any of the numbers and is one of them; the largest is not below any and is one of them. Both by one law, over
-- the pick of two. A number added to every sample is added to them. Those of groups of samples are those of all the samples, and so are those of the rows
-- of a picture. Assumes nothing.
use Prim.Native.Nat.{ℕ, zero, suc, ◌+◌, ◌*◌, ◌/◌, ◌%◌, ◌≤◌, ◌<◌}
use mathlib.Core.Path.{◌≡◌, refl, sym, ap, ap₂, ◌∙◌, subst}
use mathlib.Core.Bool.{Bool, true, false, cond}
use mathlib.Core.Logic.{◌⊎◌, inl, inr, ⊎_elim}
use native.Mathlib.Nat.{eq-or-lt_of_le, not-suc-le-zero, le_of_suc-le-suc, div-lt_iff_lt-mul, mod-lt, mul_comm, mul-pos}
use native.Mathlib.Numerals.{add-one}
use native.Mathlib.Omega.{arith}
use mathlib.Core.List.{List, [], ◌∷◌, ◌++◌}
use lib.Arith.{digits_div, digits_mod}
use lib.IntN.{ℤ, pos, negsuc, nat_abs, ◌+ℤ◌}
use lib.ListN.{length, take, drop, get_or-append}
use lib.Seq.{length-take-le}
use Rattle.std.proofs.lemmas.List.{take-append-drop}
use lib.Signed.{◌≤ℤ◌, lt_z}
use Rattle.std.specs.Int.{int_min, int_max}
use Rattle.arith.specs.Whole.{min_ℤ, max_ℤ}
use Rattle.arith.proofs.Bridge.{bridge, all1, all2, all3}
use Rattle.arith.proofs.Laws.{≤ℤ_trans, ≤ℤ_antisym, ≤ℤ_total, ≤ℤ_of_<ℤ}
use Rattle.arith.proofs.Machine.{lt-true, lt-false}
use Rattle.lists.specs.Line.{Line, line}
use Rattle.lists.specs.Ends.{picked, smallest, largest, extremes_of, smallest_in_rows, largest_in_rows}
use Rattle.lists.proofs.Rows.{row_in}

-- ---- computed: of the first three of six samples, all above 0; and over two rows of three, where the smallest is also the largest in size
abbrev six : List ℤ
six = pos 7 ∷ pos 9 ∷ pos 5 ∷ negsuc 19 ∷ pos 6 ∷ pos 8 ∷ []

three_of_six : extremes_of 3 six ≡ record { smallest = pos 5; largest = pos 9 }
unfolding picked min_ℤ max_ℤ
three_of_six = refl

over_two_rows : smallest_in_rows 3 2 (λ y x. line six (y * 3 + x)) ∷ largest_in_rows 3 2 (λ y x. line six (y * 3 + x)) ∷ [] ≡ negsuc 19 ∷ pos 9 ∷ []
unfolding picked min_ℤ max_ℤ
over_two_rows = refl

-- ---- the loop
pub picked_none : (of : ℤ → ℤ → ℤ) (f : Line) → f 0 ≡ picked of f 0
unfolding picked
picked_none of f = refl

pub picked_more : (of : ℤ → ℤ → ℤ) (f : Line) (i : ℕ) → of (picked of f i) (f i) ≡ picked of f (i + 1)
unfolding picked
picked_more of f i = rw add-one refl

-- the pick over f 0 .. f (n - 1), begun from a number that is never picked where there is one of these
unfoldable pub picked_from : (ℤ → ℤ → ℤ) → ℤ → Line → ℕ → ℤ
picked_from of v f zero = v
picked_from of v f (suc n) = of (picked_from of v f n) (f n)

pub from_none : (of : ℤ → ℤ → ℤ) (v : ℤ) (f : Line) → v ≡ picked_from of v f 0
unfolding picked_from
from_none of v f = refl

pub from_more : (of : ℤ → ℤ → ℤ) (v : ℤ) (f : Line) (i : ℕ) → of (picked_from of v f i) (f i) ≡ picked_from of v f (i + 1)
unfolding picked_from
from_more of v f i = rw add-one refl

pub from_picked : (of : ℤ → ℤ → ℤ) (v : ℤ) (f : Line) → of v (f 0) ≡ f 0 → of (f 0) (f 0) ≡ f 0 → (n : ℕ) → 1 ≤ n → picked_from of v f n ≡ picked of f n
unfolding picked_from picked
from_picked of v f never same zero h = absurd (not-suc-le-zero h)
from_picked of v f never same (suc zero) h = never ∙ sym same
from_picked of v f never same (suc (suc n)) h = ap (λ (x : ℤ). of x (f (suc n))) (from_picked of v f never same (suc n) (omega arith))

-- samples that agree have the same extremes
pub picked_same : (of : ℤ → ℤ → ℤ) (f g : Line) (n : ℕ) → 1 ≤ n → ((k : ℕ) → k < n → f k ≡ g k) → picked of f n ≡ picked of g n
unfolding picked
picked_same of f g n some same = from n same
  where
    from : (m : ℕ) → ((k : ℕ) → k < m → f k ≡ g k) → picked of f m ≡ picked of g m
    from zero h = same 0 some
    from (suc m) h = ap₂ of (from m (λ k l. h k (omega arith))) (h m (omega arith))

-- those of the first n samples of a list are those of any list that begins with them
pub extremes_first : (n : ℕ) (s t : List ℤ) → 1 ≤ n → n ≤ length s → extremes_of n (s ++ t) ≡ extremes_of n s
extremes_first n s t some room = rw (by min_ℤ, by max_ℤ) refl
  where
    by : (of : ℤ → ℤ → ℤ) → picked of (line (s ++ t)) n ≡ picked of (line s) n
    by of = picked_same of (line (s ++ t)) (line s) n some (λ k l. get_or-append s t (pos 0) k (omega arith))

-- those of the first n samples, as a list of their own
pub extremes_take : (n : ℕ) (s : List ℤ) → 1 ≤ n → n ≤ length s → extremes_of (length (take n s)) (take n s) ≡ extremes_of n s
extremes_take n s some room =
    rw (length-take-le n s room) (sym (extremes_first n (take n s) (drop n s) some (rw (length-take-le n s room) (omega arith)))
    ∙ ap (λ (t : List ℤ). extremes_of n t) (take-append-drop n s))

-- ---- v is one of f 0 .. f (n - 1), and R holds of v and each of them
pub record Extreme (R : ℤ → ℤ → Type 0) (f : Line) (n : ℕ) (v : ℤ) : Type 0 where
  pub each : (k : ℕ) → k < n → R v (f k)
  pub place : ℕ
  pub inside : place < n
  pub there : v ≡ f place

module _ (of : ℤ → ℤ → ℤ) (R : ℤ → ℤ → Type 0) (R-trans : (x y z : ℤ) → R x y → R y z → R x z)
    (left : (x y : ℤ) → R (of x y) x) (right : (x y : ℤ) → R (of x y) y) (either : (x y : ℤ) → (of x y ≡ x) ⊎ (of x y ≡ y)) where
  picked_is : (f : Line) (n : ℕ) → Extreme R f (suc n) (picked of f (suc n))
  unfolding picked
  picked_is f zero = record {
    each = λ k l. ⊎_elim (λ (e : k ≡ 0). rw e (left (f 0) (f 0))) (λ l. absurd (not-suc-le-zero l)) (eq-or-lt_of_le (le_of_suc-le-suc l));
    place = 0;
    inside = omega arith;
    there = ⊎_elim (λ e. e) (λ e. e) (either (f 0) (f 0));
  }
  picked_is f (suc n) =
      let p = picked_is f n in
      ⊎_elim
      (λ e. record { each = below p; place = p.place; inside = omega (arith, p.inside); there = e ∙ p.there })
      (λ e. record { each = below p; place = suc n; inside = omega arith; there = e })
      (either (picked of f (suc n)) (f (suc n)))
    where
      below : Extreme R f (suc n) (picked of f (suc n)) → (k : ℕ) → k < suc (suc n) → R (of (picked of f (suc n)) (f (suc n))) (f k)
      below p k l =
          ⊎_elim
          (λ (e : k ≡ suc n). rw e (right (picked of f (suc n)) (f (suc n))))
          (λ m. R-trans _ _ (f k) (left (picked of f (suc n)) (f (suc n))) (p.each k m))
          (eq-or-lt_of_le (le_of_suc-le-suc l))

-- ---- the pick of two
pub min_left : (x y : ℤ) → min_ℤ x y ≤ℤ x
min_left = all2 _ (simp bridge (omega arith))

pub min_right : (x y : ℤ) → min_ℤ x y ≤ℤ y
min_right = all2 _ (simp bridge (omega arith))

min_low : (x y : ℤ) → x ≤ℤ y → min_ℤ x y ≡ x
min_low = all2 _ (simp bridge (omega arith))

min_high : (x y : ℤ) → y ≤ℤ x → min_ℤ x y ≡ y
min_high = all2 _ (simp bridge (omega arith))

pub max_left : (x y : ℤ) → x ≤ℤ max_ℤ x y
max_left = all2 _ (simp bridge (omega arith))

pub max_right : (x y : ℤ) → y ≤ℤ max_ℤ x y
max_right = all2 _ (simp bridge (omega arith))

max_low : (x y : ℤ) → x ≤ℤ y → max_ℤ x y ≡ y
max_low = all2 _ (simp bridge (omega arith))

max_high : (x y : ℤ) → y ≤ℤ x → max_ℤ x y ≡ x
max_high = all2 _ (simp bridge (omega arith))

-- the library's two
pub least : (x y : ℤ) → int_min x y ≡ min_ℤ x y
least x y = by (lt_z y x) refl
  where
    by : (t : Bool) → lt_z y x ≡ t → cond t y x ≡ min_ℤ x y
    by true e = sym (min_high x y (≤ℤ_of_<ℤ (lt-true y x e)))
    by false e = sym (min_low x y (lt-false y x e))

pub most : (x y : ℤ) → int_max x y ≡ max_ℤ x y
most x y = by (lt_z y x) refl
  where
    by : (t : Bool) → lt_z y x ≡ t → cond t x y ≡ max_ℤ x y
    by true e = sym (max_high x y (≤ℤ_of_<ℤ (lt-true y x e)))
    by false e = sym (max_low x y (lt-false y x e))

-- ---- the smallest and the largest
pub smallest_is : (f : Line) (n : ℕ) → 1 ≤ n → Extreme (λ x y. x ≤ℤ y) f n (smallest f n)
smallest_is f zero h = absurd (not-suc-le-zero h)
smallest_is f (suc n) h = picked_is min_ℤ (λ x y. x ≤ℤ y) (λ x y z h k. ≤ℤ_trans h k) min_left min_right either f n
  where
    either : (x y : ℤ) → (min_ℤ x y ≡ x) ⊎ (min_ℤ x y ≡ y)
    either x y = ⊎_elim (λ h. inl (min_low x y h)) (λ h. inr (min_high x y h)) (≤ℤ_total x y)

pub largest_is : (f : Line) (n : ℕ) → 1 ≤ n → Extreme (λ x y. y ≤ℤ x) f n (largest f n)
largest_is f zero h = absurd (not-suc-le-zero h)
largest_is f (suc n) h = picked_is max_ℤ (λ x y. y ≤ℤ x) (λ x y z h k. ≤ℤ_trans k h) max_left max_right either f n
  where
    either : (x y : ℤ) → (max_ℤ x y ≡ x) ⊎ (max_ℤ x y ≡ y)
    either x y = ⊎_elim (λ h. inr (max_low x y h)) (λ h. inl (max_high x y h)) (≤ℤ_total x y)

-- a number at the end of a range is never picked among numbers within it
pub min_never : (v : ℤ) → nat_abs v ≤ 1048576 → min_ℤ (pos 1048576) v ≡ v
min_never = all1 _ (simp bridge (omega arith))

pub max_never : (v : ℤ) → nat_abs v ≤ 1048576 → max_ℤ (negsuc 1048575) v ≡ v
max_never = all1 _ (simp bridge (omega arith))

pub min_same : (v : ℤ) → min_ℤ v v ≡ v
min_same = all1 _ (simp bridge (omega arith))

pub max_same : (v : ℤ) → max_ℤ v v ≡ v
max_same = all1 _ (simp bridge (omega arith))

-- being one of the samples, it has what they all have
pub extreme_has : (R : ℤ → ℤ → Type 0) (P : ℤ → Type 0) (f : Line) (n : ℕ) (v : ℤ) → Extreme R f n v → ((k : ℕ) → k < n → P (f k)) → P v
extreme_has R P f n v e each = subst P (sym e.there) (each e.place e.inside)

-- ---- a number added to every sample is added to the smallest and to the largest
picked_plus : (of : ℤ → ℤ → ℤ) → ((x y c : ℤ) → of (x +ℤ c) (y +ℤ c) ≡ of x y +ℤ c) → (c : ℤ) (f g : Line) (n : ℕ) → 1 ≤ n
    → ((k : ℕ) → k < n → g k ≡ f k +ℤ c) → picked of g n ≡ picked of f n +ℤ c
unfolding picked
picked_plus of both c f g n some each = from n each
  where
    from : (m : ℕ) → ((k : ℕ) → k < m → g k ≡ f k +ℤ c) → picked of g m ≡ picked of f m +ℤ c
    from zero h = each 0 some
    from (suc m) h = ap₂ of (from m (λ k l. h k (omega arith))) (h m (omega arith)) ∙ both (picked of f m) (f m) c

module _ (c : ℤ) (f g : Line) (n : ℕ) (some : 1 ≤ n) (each : (k : ℕ) → k < n → g k ≡ f k +ℤ c) where
  pub smallest_plus : smallest g n ≡ smallest f n +ℤ c
  smallest_plus = picked_plus min_ℤ both c f g n some each
    where
      both : (x y c : ℤ) → min_ℤ (x +ℤ c) (y +ℤ c) ≡ min_ℤ x y +ℤ c
      both = all3 _ (simp bridge (omega arith))

  pub largest_plus : largest g n ≡ largest f n +ℤ c
  largest_plus = picked_plus max_ℤ both c f g n some each
    where
      both : (x y c : ℤ) → max_ℤ (x +ℤ c) (y +ℤ c) ≡ max_ℤ x y +ℤ c
      both = all3 _ (simp bridge (omega arith))

-- ---- groups of one size, whose numbers are those of a line, in whatever order they stand there
-- v is one of the first n numbers of a line, and one of the first n of one of m lines
pub record Among (f : Line) (n : ℕ) (v : ℤ) : Type 0 where
  pub place : ℕ
  pub inside : place < n
  pub there : v ≡ f place

pub record InGroups (groups : ℕ → Line) (m n : ℕ) (v : ℤ) : Type 0 where
  pub group : ℕ
  pub place : ℕ
  pub group_inside : group < m
  pub inside : place < n
  pub there : v ≡ groups group place

-- m groups of n numbers each hold just the numbers of a line
pub record Cover (groups : ℕ → Line) (m n : ℕ) (all : Line) (size : ℕ) : Type 0 where
  pub each : (i k : ℕ) → i < m → k < n → Among all size (groups i k)
  pub every : (p : ℕ) → p < size → InGroups groups m n (all p)

module _ (of : ℤ → ℤ → ℤ) (R : ℤ → ℤ → Type 0) (R-trans : (x y z : ℤ) → R x y → R y z → R x z) (R-antisym : (x y : ℤ) → R x y → R y x → x ≡ y)
    (picked-extreme : (f : Line) (n : ℕ) → 1 ≤ n → Extreme R f n (picked of f n)) where
  -- there is one
  extreme_only : (f : Line) (n : ℕ) (v w : ℤ) → Extreme R f n v → Extreme R f n w → v ≡ w
  extreme_only f n v w e d =
      R-antisym v w (subst (R v) (sym d.there) (e.each d.place d.inside)) (subst (R w) (sym e.there) (d.each e.place e.inside))

  module _ {groups : ℕ → Line} {m n : ℕ} {all : Line} {size : ℕ} (some-groups : 1 ≤ m) (some : 1 ≤ n) (c : Cover groups m n all size) where
    abbrev best : ℕ → ℤ
    best i = picked of (groups i) n

    -- the pick of the picks is extreme among all, and so it is their pick
    extreme_groups : Extreme R all size (picked of best m)
    extreme_groups =
        let e = picked-extreme best m some-groups in
        let own : (i : ℕ) → Extreme R (groups i) n (best i) = λ i. picked-extreme (groups i) n some in
        let a = c.each e.place (own e.place).place e.inside (own e.place).inside in
        record {
          each = λ p l.
              let g = c.every p l in
              subst (R (picked of best m)) (sym g.there) (R-trans _ _ _ (e.each g.group g.group_inside) ((own g.group).each g.place g.inside));
          place = a.place;
          inside = a.inside;
          there = e.there ∙ (own e.place).there ∙ a.there;
        }

    picked_groups : 1 ≤ size → picked of best m ≡ picked of all size
    picked_groups many = extreme_only all size _ _ extreme_groups (picked-extreme all size many)

module _ {groups : ℕ → Line} {m n : ℕ} {all : Line} {size : ℕ} (some-groups : 1 ≤ m) (some : 1 ≤ n) (many : 1 ≤ size) (c : Cover groups m n all size) where
  pub smallest_groups : smallest (λ i. smallest (groups i) n) m ≡ smallest all size
  smallest_groups = picked_groups min_ℤ (λ x y. x ≤ℤ y) (λ x y z h k. ≤ℤ_trans h k) (λ x y h k. ≤ℤ_antisym h k) smallest_is some-groups some c many

  pub largest_groups : largest (λ i. largest (groups i) n) m ≡ largest all size
  largest_groups = picked_groups max_ℤ (λ x y. y ≤ℤ x) (λ x y z h k. ≤ℤ_trans k h) (λ x y h k. ≤ℤ_antisym k h) largest_is some-groups some c many

-- ---- rows are groups, where they hold the samples of s one row after the other
module _ (W H : ℕ) (rows : ℕ → Line) (s : Line) (hW : 1 ≤ W) (hH : 1 ≤ H) (same : (i : ℕ) → i < W * H → rows (i / W) (i % W) ≡ s i) where
  row_groups : Cover rows H W s (W * H)
  row_groups =
      record {
        each = λ y x hy hx.
            let l : y * W + x < W * H = omega (arith, row_in W H y hy, mul_comm W H) in
            record { place = y * W + x; inside = l; there = sym (ap₂ rows (digits_div y hx) (digits_mod y hx)) ∙ same (y * W + x) l };
        every = λ p l. record {
          group = p / W;
          place = p % W;
          group_inside = (div-lt_iff_lt-mul hW).1 (omega (arith, mul_comm W H));
          inside = mod-lt p hW;
          there = sym (same p l);
        };
      }

  pub smallest-rows : smallest_in_rows W H rows ≡ smallest s (W * H)
  smallest-rows = smallest_groups hH hW (mul-pos hW hH) row_groups

  pub largest-rows : largest_in_rows W H rows ≡ largest s (W * H)
  largest-rows = largest_groups hH hW (mul-pos hW hH) row_groups
