-- The levelling step: the scan of the definition finds it, it is the only one, and it stands beside the place where the miss changes its
-- sign, since the miss grows with the step. Assumes nothing.
use Prim.Native.Nat.{ℕ, zero, suc, ◌+◌, ◌≤◌, ◌<◌}
use mathlib.Core.Path.{◌≡◌, refl, sym, subst}
use mathlib.Core.Bool.{Bool, true, false, cond}
use mathlib.Core.Logic.{⊎_elim}
use native.Mathlib.Nat.{eq-or-lt_of_le, le_of_suc-le-suc}
use native.Mathlib.Numerals.{add-one}
use native.Mathlib.Omega.{arith}
use borrow.Author.Tests.{ltb-true, ltb-false, leb-true, leb-false}
use lib.Dec.{ltb, leb}
use lib.IntN.{ℤ, pos, negsuc, nat_abs, ◌+ℤ◌, ◌-ℤ◌, ◌*ℤ◌}
use lib.Signed.{◌≤ℤ◌, ◌<ℤ◌}
use Rattle.arith.proofs.Bridge.{bridge, prod, all1, all2, all3}
use Rattle.arith.proofs.Ring.{ring, reify, vars4}
use Rattle.arith.proofs.Laws.{≤ℤ_antisym, <ℤ_or_≤ℤ, *ℤ_positive}
use Rattle.levelling.specs.Level.{miss, Levels, first_smallest, step_at, miss_at, levelling}
use Rattle.levelling.specs.Search.{Flat, Between}

-- ---- the first of 0 to n at which f is smallest
pub record First (f : ℕ → ℕ) (n u : ℕ) : Type 0 where
  pub within : u ≤ n
  pub smallest : (v : ℕ) → v ≤ n → f u ≤ f v
  pub lower : (v : ℕ) → v < u → f u < f v

module _ (f : ℕ → ℕ) where
  last_or_before : (n v : ℕ) (P : Type 0) → v ≤ suc n → (v ≡ suc n → P) → (v ≤ n → P) → P
  last_or_before n v P h e b = ⊎_elim e (λ (l : v < suc n). b (le_of_suc-le-suc l)) (eq-or-lt_of_le h)

  pub first_is : (n : ℕ) → First f n (first_smallest f n)
  unfolding first_smallest
  first_is zero = record { within = omega arith; smallest = λ v h. only v (omega arith); lower = λ v h. absurd (omega arith) }
    where
      only : (v : ℕ) → v ≡ 0 → f 0 ≤ f v
      only v e = rw e (omega arith)
  first_is (suc n) = by (ltb (f (suc n)) (f (first_smallest f n))) refl (first_is n)
    where
      by : (t : Bool) → ltb (f (suc n)) (f (first_smallest f n)) ≡ t → First f n (first_smallest f n)
          → First f (suc n) (cond t (suc n) (first_smallest f n))
      by true e i =
          let l = ltb-true (f (suc n)) (f (first_smallest f n)) e in
          record {
            within = omega arith;
            smallest = λ v h. last_or_before n v (f (suc n) ≤ f v) h (λ q. rw q (omega arith)) (λ k. omega (arith, i.smallest v k));
            lower = λ v h. omega (arith, i.smallest v (le_of_suc-le-suc h));
          }
      by false e i =
          let l = ltb-false (f (suc n)) (f (first_smallest f n)) e in
          record {
            within = omega (arith, i.within);
            smallest = λ v h. last_or_before n v (f (first_smallest f n) ≤ f v) h (λ q. rw q l) (λ k. i.smallest v k);
            lower = i.lower;
          }

-- ---- from places to steps: the definition's step is the one with the smallest miss, of two equal the lower
placed : (t : ℤ) → nat_abs t ≤ 1697 → t ≡ pos (nat_abs (t +ℤ pos 1697)) -ℤ pos 1697
placed = all1 _ (simp bridge (omega arith))

place_within : (t : ℤ) → nat_abs t ≤ 1697 → nat_abs (t +ℤ pos 1697) ≤ 3394
place_within = all1 _ (simp bridge (omega arith))

place_before : (u : ℕ) (t : ℤ) → nat_abs t ≤ 1697 → t <ℤ (pos u -ℤ pos 1697) → nat_abs (t +ℤ pos 1697) < u
place_before u = all1 _ (simp bridge (omega arith))

step_range : (u : ℕ) → u ≤ 3394 → nat_abs (pos u -ℤ pos 1697) ≤ 1697
step_range = simp bridge (omega arith)

pub first_levels : (dx dy : ℤ) (u : ℕ) → First (miss_at dx dy) 3394 u → Levels dx dy (step_at u)
unfolding step_at miss_at
first_levels dx dy u f =
    record {
      step = step_range u f.within;
      smallest = λ t h.
          subst (λ (z : ℤ). here ≤ nat_abs (miss dx dy z)) (sym (placed t h)) (f.smallest (nat_abs (t +ℤ pos 1697)) (place_within t h));
      lower = λ t h l.
          subst (λ (z : ℤ). here < nat_abs (miss dx dy z)) (sym (placed t h)) (f.lower (nat_abs (t +ℤ pos 1697)) (place_before u t h l));
    }
  where
    here : ℕ
    here = nat_abs (miss dx dy (pos u -ℤ pos 1697))

pub levelled_least : (dx dy : ℤ) → Levels dx dy (levelling dx dy)
unfolding levelling
levelled_least dx dy = first_levels dx dy _ (first_is (miss_at dx dy) 3394)

pub levels_only : (dx dy t u : ℤ) → Levels dx dy t → Levels dx dy u → t ≡ u
levels_only dx dy t u a b = ≤ℤ_antisym (not_past t u a b) (not_past u t b a)
  where
    not_past : (t u : ℤ) → Levels dx dy t → Levels dx dy u → t ≤ℤ u
    not_past t u a b =
        ⊎_elim (λ (h : u <ℤ t). absurd (omega (arith, a.lower u b.step h, b.smallest t a.step)))
        (λ (h : t ≤ℤ u). h) (<ℤ_or_≤ℤ u t)

-- ---- the miss grows with the step
factored : (t u dx dy : ℤ)
    → (pos 8192 *ℤ t *ℤ dx +ℤ (pos 16777216 -ℤ t *ℤ t) *ℤ dy) -ℤ (pos 8192 *ℤ u *ℤ dx +ℤ (pos 16777216 -ℤ u *ℤ u) *ℤ dy)
    ≡ (t -ℤ u) *ℤ (pos 8192 *ℤ dx -ℤ (t +ℤ u) *ℤ dy)
factored = vars4 _ (simp reify (λ ρ. ring tt))

slope : (s dx dy : ℤ) → s ≤ℤ pos 3394 → negsuc 3393 ≤ℤ s → pos 1 ≤ℤ dx → dy ≤ℤ dx → pos 0 ≤ℤ (dx +ℤ dy)
    → pos 0 <ℤ (pos 8192 *ℤ dx -ℤ s *ℤ dy)
slope = all3 _ (simp bridge (λ s s' x x' y y' high low some down up. omega (arith, prod high up, prod low down)))

rise : (a b : ℤ) → pos 0 <ℤ (a -ℤ b) → b <ℤ a
rise = all2 _ (simp bridge (omega arith))

steps_apart : (u v : ℕ) → u < v → v ≤ 3394
    → (pos 0 <ℤ ((pos v -ℤ pos 1697) -ℤ (pos u -ℤ pos 1697)))
    × (((pos v -ℤ pos 1697) +ℤ (pos u -ℤ pos 1697)) ≤ℤ pos 3394)
    × (negsuc 3393 ≤ℤ ((pos v -ℤ pos 1697) +ℤ (pos u -ℤ pos 1697)))
steps_apart = simp bridge (omega arith)

pub miss_grows : (dx dy : ℤ) (u v : ℕ) → Flat dx dy → u < v → v ≤ 3394 → miss dx dy (step_at u) <ℤ miss dx dy (step_at v)
unfolding miss step_at
miss_grows dx dy u v f h k =
    let (apart, high, low) = steps_apart u v h k in
    let t = pos v -ℤ pos 1697 in
    let s = pos u -ℤ pos 1697 in
    rise _ _ (subst (λ (z : ℤ). pos 0 <ℤ z) (sym (factored t s dx dy))
    (*ℤ_positive (t -ℤ s) (pos 8192 *ℤ dx -ℤ (t +ℤ s) *ℤ dy) apart (slope (t +ℤ s) dx dy high low f.some f.down f.up)))

-- at -1,697 it is at most 0, and at 1,697 at least 0
pub ends : (dx dy : ℤ) → Flat dx dy → Between dx dy 0 3394
unfolding miss step_at
ends dx dy f = record { order = omega arith; top = omega arith; below = first dx dy f.down f.some; above = last dx dy f.up f.some }
  where
    first : (dx dy : ℤ) → dy ≤ℤ dx → pos 1 ≤ℤ dx → (negsuc 13901823 *ℤ dx +ℤ pos 13897407 *ℤ dy) ≤ℤ pos 0
    first = all2 _ (simp bridge (omega arith))

    last : (dx dy : ℤ) → pos 0 ≤ℤ (dx +ℤ dy) → pos 1 ≤ℤ dx → pos 0 ≤ℤ (pos 13901824 *ℤ dx +ℤ pos 13897407 *ℤ dy)
    last = all2 _ (simp bridge (omega arith))

-- ---- beside the change of sign stands the smallest
module _ (dx dy : ℤ) (f : Flat dx dy) (lo : ℕ) (b : Between dx dy lo (lo + 1)) where
  before : (v : ℕ) → v < lo → miss_at dx dy lo < miss_at dx dy v
  unfolding miss_at
  before v h = falls (miss dx dy (step_at v)) (miss dx dy (step_at lo)) (miss_grows dx dy v lo f h (omega (arith, b.top))) b.below
    where
      falls : (x y : ℤ) → x <ℤ y → y ≤ℤ pos 0 → nat_abs y < nat_abs x
      falls = all2 _ (simp bridge (omega arith))

  behind : (v : ℕ) → lo + 1 ≤ v → v ≤ 3394 → miss_at dx dy (lo + 1) ≤ miss_at dx dy v
  unfolding miss_at
  behind v h k =
      ⊎_elim (λ (e : lo + 1 ≡ v). rw (sym e) (omega arith))
      (λ (l : lo + 1 < v). rises (miss dx dy (step_at (lo + 1))) (miss dx dy (step_at v)) b.above (miss_grows dx dy (lo + 1) v f l k))
      (eq-or-lt_of_le h)
    where
      rises : (x y : ℤ) → pos 0 ≤ℤ x → x <ℤ y → nat_abs x ≤ nat_abs y
      rises = all2 _ (simp bridge (omega arith))

  -- any place is before lo, is lo, or is behind it
  where_is : (v : ℕ) (P : Type 0) → (v < lo → P) → (v ≡ lo → P) → (lo + 1 ≤ v → P) → P
  where_is v P f g h = go (leb (lo + 1) v) refl
    where
      go : (t : Bool) → leb (lo + 1) v ≡ t → P
      go true e = h (leb-true (lo + 1) v e)
      go false e =
          let l = leb-false (lo + 1) v e in
          ⊎_elim g f (eq-or-lt_of_le (le_of_suc-le-suc (subst (λ (n : ℕ). v < n) (add-one lo) l)))

  lower_first : miss_at dx dy lo ≤ miss_at dx dy (lo + 1) → First (miss_at dx dy) 3394 lo
  lower_first l =
      record {
        within = omega (arith, b.top);
        smallest = λ v h.
            where_is v (miss_at dx dy lo ≤ miss_at dx dy v)
            (λ k. omega (arith, before v k)) (λ e. rw e (omega arith)) (λ k. omega (arith, behind v k h));
        lower = before;
      }

  upper_first : miss_at dx dy (lo + 1) < miss_at dx dy lo → First (miss_at dx dy) 3394 (lo + 1)
  upper_first l =
      record {
        within = b.top;
        smallest = λ v h.
            where_is v (miss_at dx dy (lo + 1) ≤ miss_at dx dy v)
            (λ k. omega (arith, before v k)) (λ e. rw e (omega arith)) (λ k. behind v k h);
        lower = λ v h.
            where_is v (miss_at dx dy (lo + 1) < miss_at dx dy v)
            (λ k. omega (arith, before v k)) (λ e. rw e l) (λ k. absurd (omega arith));
      }

  -- of the misses x and y beside the change: the lower place, or the higher where it misses by less
  module _ (x y : ℤ) (at_lo : x ≡ miss dx dy (step_at lo)) (at_next : y ≡ miss dx dy (step_at (lo + 1))) where
    pub lower_smallest : (pos 0 -ℤ x) ≤ℤ y → step_at lo ≡ levelling dx dy
    unfolding miss_at
    lower_smallest h =
        levels_only dx dy _ _
        (first_levels dx dy lo (lower_first (sizes _ _ b.below b.above (rw (at_lo, at_next) at h)))) (levelled_least dx dy)
      where
        sizes : (x y : ℤ) → x ≤ℤ pos 0 → pos 0 ≤ℤ y → (pos 0 -ℤ x) ≤ℤ y → nat_abs x ≤ nat_abs y
        sizes = all2 _ (simp bridge (omega arith))

    pub upper_smallest : y <ℤ (pos 0 -ℤ x) → step_at (lo + 1) ≡ levelling dx dy
    unfolding miss_at
    upper_smallest h =
        levels_only dx dy _ _
        (first_levels dx dy (lo + 1) (upper_first (sizes _ _ b.below b.above (rw (at_lo, at_next) at h)))) (levelled_least dx dy)
      where
        sizes : (x y : ℤ) → x ≤ℤ pos 0 → pos 0 ≤ℤ y → y <ℤ (pos 0 -ℤ x) → nat_abs y < nat_abs x
        sizes = all2 _ (simp bridge (omega arith))

-- ---- for the code: the sizes of dx and dy
pub flat_small : (dx dy : ℤ) → Flat dx dy → (nat_abs dx ≤ 1023) × (nat_abs dy ≤ 1023)
flat_small dx dy f = small dx dy f.some f.wide f.down f.up
  where
    small : (dx dy : ℤ) → pos 1 ≤ℤ dx → dx ≤ℤ pos 1023 → dy ≤ℤ dx → pos 0 ≤ℤ (dx +ℤ dy) → (nat_abs dx ≤ 1023) × (nat_abs dy ≤ 1023)
    small = all2 _ (simp bridge (omega arith))
