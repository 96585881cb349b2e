-- The row that is looked at lies between the rows of the two points, so that every look is inside the picture. Nothing is found just where no looked-at sample is
-- below the threshold; what is found is the first that is. Assumes nothing.
use Prim.Native.Nat.{ℕ, suc, ◌+◌, ◌*◌, ◌-◌, ◌/◌, ◌≤◌, ◌<◌, min, max}
use mathlib.Core.Path.{◌≡◌, refl, sym, ap, ◌∙◌}
use mathlib.Core.Bool.{Bool, true, false, true≢false}
use mathlib.Core.List.{List, [], ◌∷◌, map}
use mathlib.Core.Logic.{◌↔◌}
use native.Mathlib.Omega.{arith}
use lib.IntN.{ℤ, pos, negsuc, nat_abs, ◌+ℤ◌, ◌-ℤ◌, ◌*ℤ◌}
use lib.ListN.{get_or}
use lib.Signed.{shr_z, lt_z, ◌≤ℤ◌}
use Rattle.arith.specs.Whole.{floor, round}
use Rattle.arith.proofs.Bridge.{bridge, prod, all1}
use Rattle.arith.proofs.Round.{round-between, round_error}
use Rattle.arith.proofs.Machine.{lt-true, true-lt}
use Rattle.std.specs.Prelude.{Option, Some, None}
use Rattle.refusals.specs.declared.Place.{Place}
use Rattle.refusals.specs.Tests.{first_from}
use Rattle.refusals.proofs.First.{nothing-first, first_is}
use Rattle.graticule.specs.declared.Points.{Points}
use Rattle.graticule.specs.Look.{row_at, looked_at, first_below, Below, FirstBelow, Rightward}

-- what is found in row y, column x
abbrev pub at : ℕ → ℕ → Option Place
at y x = Some (record { row = y; column = x })

-- ---- rows, computed: down the screen from (0, 0) to (3, 2), up it from (0, 2) to (2, 1), and from (0, 0) to (2, 1). A half goes down: 3/2 to row 2, 1/2 to row 1
abbrev down : Points
down = record { x1 = 0; y1 = 0; x2 = 3; y2 = 2 }

rows_down : map (row_at down) (0 ∷ 1 ∷ 2 ∷ 3 ∷ []) ≡ pos 0 ∷ pos 1 ∷ pos 1 ∷ pos 2 ∷ []
unfolding row_at floor
rows_down = refl

rows_up : map (row_at (record { x1 = 0; y1 = 2; x2 = 2; y2 = 1 })) (0 ∷ 1 ∷ 2 ∷ []) ≡ pos 2 ∷ pos 2 ∷ pos 1 ∷ []
unfolding row_at floor
rows_up = refl

rows_half : map (row_at (record { x1 = 0; y1 = 0; x2 = 2; y2 = 1 })) (0 ∷ 1 ∷ 2 ∷ []) ≡ pos 0 ∷ pos 1 ∷ pos 1 ∷ []
unfolding row_at floor
rows_half = refl

-- ---- what is found in a picture 4 wide and 3 high, computed
abbrev pub small : List ℤ
small = pos 9 ∷ pos 8 ∷ pos 7 ∷ pos 6 ∷ pos 5 ∷ negsuc 0 ∷ pos 5 ∷ pos 2 ∷ pos 9 ∷ pos 9 ∷ pos 9 ∷ pos 1 ∷ []

-- the line looks at 9, -1, 5 and 1: below 0 the first is -1, below 10 and below the largest number of 32 bits it is 9, and below the smallest there is none
found_down :
    map (λ (t : ℤ). first_below 4 down t small) (pos 0 ∷ pos 10 ∷ pos 2147483647 ∷ negsuc 2147483647 ∷ []) ≡ at 1 1 ∷ at 0 0 ∷ at 0 0 ∷ None ∷ []
unfolding first_below first_from row_at floor
found_down = refl

-- from (1, 2) to (3, 2) it looks at 9, 9 and 1: the last, in the column of x2, is below 2 and not below 1
found_across : map (λ (t : ℤ). first_below 4 (record { x1 = 1; y1 = 2; x2 = 3; y2 = 2 }) t small) (pos 2 ∷ pos 1 ∷ []) ≡ at 2 3 ∷ None ∷ []
unfolding first_below first_from row_at floor
found_across = refl

-- ---- the row in a column from x1 to x2: y1·dx + dy·(x - x1), which is dx times the line's own row there, rounded over dx
difference : (a b : ℕ) → a ≤ b → pos b -ℤ pos a ≡ pos (b - a)
difference = simp bridge (omega arith)

-- i columns on and j to go, that is a mean of the two rows
mean : (x1 y1 y2 i j : ℕ)
    → pos 2 *ℤ (pos y1 *ℤ pos (i + j) +ℤ (pos y2 -ℤ pos y1) *ℤ (pos (x1 + i) -ℤ pos x1)) +ℤ pos (i + j) ≡ pos (2 * (y1 * j + y2 * i) + (i + j))
mean = simp bridge (omega arith)

mean_low : (x1 y1 y2 i j lo : ℕ) → lo ≤ y1 → lo ≤ y2
    → (pos (i + j) *ℤ pos lo) ≤ℤ (pos y1 *ℤ pos (i + j) +ℤ (pos y2 -ℤ pos y1) *ℤ (pos (x1 + i) -ℤ pos x1))
mean_low = simp bridge (λ (x1 y1 y2 i j lo : ℕ) a b. let z : 0 ≤ i = omega arith in let w : 0 ≤ j = omega arith in omega (arith, prod a w, prod b z))

mean_high : (x1 y1 y2 i j hi : ℕ) → y1 ≤ hi → y2 ≤ hi
    → (pos y1 *ℤ pos (i + j) +ℤ (pos y2 -ℤ pos y1) *ℤ (pos (x1 + i) -ℤ pos x1)) ≤ℤ (pos (i + j) *ℤ pos hi)
mean_high = simp bridge (λ (x1 y1 y2 i j hi : ℕ) a b. let z : 0 ≤ i = omega arith in let w : 0 ≤ j = omega arith in omega (arith, prod a w, prod b z))

natural : (z : ℤ) (lo hi : ℕ) → pos lo ≤ℤ z → z ≤ℤ pos hi → (lo ≤ nat_abs z) × (nat_abs z ≤ hi)
natural = all1 _ (simp bridge (omega arith))

module _ (p : Points) (x : ℕ) (points : Rightward p) (from : p.x1 ≤ x) (to : x ≤ p.x2) where
  abbrev dx : ℕ
  dx = p.x2 - p.x1

  abbrev scaled : ℤ
  scaled = pos p.y1 *ℤ pos dx +ℤ (pos p.y2 -ℤ pos p.y1) *ℤ (pos x -ℤ pos p.x1)

  on : p.x1 + (x - p.x1) ≡ x
  on = omega arith

  all : (x - p.x1) + (p.x2 - x) ≡ dx
  all = omega arith

  some : 0 < dx
  some = omega (arith, points.apart)

  row_rounded : row_at p x ≡ round scaled dx
  unfolding row_at round
  row_rounded = rw (difference p.x1 p.x2 (omega arith)) refl

  -- as the code computes it, of natural numbers alone
  pub row_is : pos ((2 * (p.y1 * (p.x2 - x) + p.y2 * (x - p.x1)) + dx) / (2 * dx)) ≡ row_at p x
  unfolding round floor
  row_is =
      let e = rw (on, all) at (mean p.x1 p.y1 p.y2 (x - p.x1) (p.x2 - x)) in
      ap (λ (z : ℤ). shr_z z (2 * dx)) (sym e) ∙ sym row_rounded

  -- it is natural, so that nothing is lost by `nat_abs`
  pub row_natural : pos (nat_abs (row_at p x)) ≡ row_at p x
  row_natural = ap (λ (z : ℤ). pos (nat_abs z)) (sym row_is) ∙ row_is

  pub row_between : (min p.y1 p.y2 ≤ nat_abs (row_at p x)) × (nat_abs (row_at p x) ≤ max p.y1 p.y2)
  row_between =
      let lo = min p.y1 p.y2 in
      let hi = max p.y1 p.y2 in
      let low = rw (on, all) at (mean_low p.x1 p.y1 p.y2 (x - p.x1) (p.x2 - x) lo (omega arith) (omega arith)) in
      let high = rw (on, all) at (mean_high p.x1 p.y1 p.y2 (x - p.x1) (p.x2 - x) hi (omega arith) (omega arith)) in
      let between = round-between scaled dx some low high in
      rw row_rounded (natural (round scaled dx) lo hi between.0 between.1)

  -- it lies within half a row of the line, so that no row is nearer
  pub row_nearest : 2 * nat_abs (pos dx *ℤ row_at p x -ℤ scaled) ≤ dx
  row_nearest = rw row_rounded (round_error scaled dx some)

-- the sample there, by that row
pub looked_is : (width : ℕ) (p : Points) (picture : List ℤ) (y x : ℕ) → pos y ≡ row_at p x → looked_at width p picture x ≡ get_or picture (y * width + x) (pos 0)
looked_is width p picture y x e = ap (λ (n : ℕ). get_or picture (n * width + x) (pos 0)) (sym (ap nat_abs e))

-- ---- what is found
module _ (width : ℕ) (p : Points) (threshold : ℤ) (picture : List ℤ) (points : Rightward p) where
  abbrev is_below : ℕ → Bool
  is_below x = lt_z (looked_at width p picture x) threshold

  abbrev rows : ℕ → ℕ
  rows x = nat_abs (row_at p x)

  abbrev columns : ℕ → ℕ
  columns x = x

  abbrev count : ℕ
  count = suc p.x2 - p.x1

  -- ---- as the search finds it
  pub none_found : ((j : ℕ) → p.x1 ≤ j → j ≤ p.x2 → is_below j ≡ false) → first_below width p threshold picture ≡ None
  unfolding first_below
  none_found h = (nothing-first is_below rows columns p.x1 count).1 (λ j a b. h j a (omega arith))

  pub one_found : (y x : ℕ) → p.x1 ≤ x → x ≤ p.x2 → ((j : ℕ) → p.x1 ≤ j → j < x → is_below j ≡ false) → is_below x ≡ true → pos y ≡ row_at p x
      → first_below width p threshold picture ≡ at y x
  unfolding first_below
  one_found y x from to earlier here row =
      (first_is is_below rows columns p.x1 count y x).1
      (record { place = x; first = record { from = from; inside = omega arith; earlier = earlier; here = here }; row_is = ap nat_abs row; column_is = refl })

  -- ---- and what that says
  -- nothing just where no looked-at sample is below the threshold
  pub nothing_below : first_below width p threshold picture ≡ None ↔ ((x : ℕ) → ¬ Below width p threshold picture x)
  unfolding first_below
  nothing_below = (
    λ e x b. true≢false (sym (true-lt _ _ b.below) ∙ (nothing-first is_below rows columns p.x1 count).0 e x b.from (omega (arith, b.to, b.from))),
    λ none. none_found (λ j a l. by j a l (is_below j) refl none),
  )
    where
      by : (j : ℕ) → p.x1 ≤ j → j ≤ p.x2 → (t : Bool) → is_below j ≡ t → ((x : ℕ) → ¬ Below width p threshold picture x) → is_below j ≡ false
      by j a l true e none = absurd (none j (record { from = a; to = l; below = lt-true _ _ e }))
      by j a l false e none = e

  -- a row and a column that are found hold the first that is
  pub found_is_first : (height y x : ℕ) → max p.y1 p.y2 < height → p.x2 < width → first_below width p threshold picture ≡ at y x
      → FirstBelow width height p threshold picture y x
  unfolding first_below
  found_is_first height y x high wide e =
      let s = (first_is is_below rows columns p.x1 count y x).0 e in
      let f = s.first in
      let to : s.place ≤ p.x2 = omega (arith, f.inside, f.from) in
      let b = (row_between p s.place points f.from to).1 in
      rw s.column_is (record {
        here = record { from = f.from; to = to; below = lt-true _ _ f.here };
        row = ap pos s.row_is ∙ row_natural p s.place points f.from to;
        earlier = λ j l b. true≢false (sym (true-lt _ _ b.below) ∙ f.earlier j b.from l);
        inside = (omega (arith, s.row_is, b, high), omega (arith, to, wide));
      })
