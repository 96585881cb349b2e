-- "In every column from x1 to x2 it looks at row (2(y1·dx + dy·(x - x1)) + dx)/(2·dx), rounded down." Assumes nothing.
use Rattle.std.specs.Prelude.{ℕ, suc, ◌+◌, ◌*◌, ◌-◌, ◌≤◌, ◌<◌, max, ◌≡◌, Option, List, ℤ, pos, nat_abs, ◌+ℤ◌, ◌-ℤ◌, ◌*ℤ◌, ◌<ℤ◌}
use Rattle.std.specs.Int.Signed.{lt_z}
use Rattle.arith.specs.Whole.{floor}
use Rattle.refusals.specs.declared.Place.{Place}
use Rattle.refusals.specs.Tests.{first_from}
use Rattle.readings.specs.Answers.{sample_at}
use Rattle.levelling.specs.Level.{largest_side}
use Rattle.graticule.specs.declared.Points.{Points}

-- the row that is looked at in column x
unfoldable pub row_at : Points → ℕ → ℤ
row_at p x =
    let dx = pos p.x2 -ℤ pos p.x1 in
    let dy = pos p.y2 -ℤ pos p.y1 in
    floor (pos 2 *ℤ (pos p.y1 *ℤ dx +ℤ dy *ℤ (pos x -ℤ pos p.x1)) +ℤ dx) (2 * nat_abs dx)

-- the sample that is looked at in column x, in a picture stored row by row
abbrev pub looked_at : ℕ → Points → List ℤ → ℕ → ℤ
looked_at width p picture x = sample_at width x (nat_abs (row_at p x)) picture

-- the first column from x1 to x2 whose sample is below the threshold, with its row
unfoldable pub first_below : ℕ → Points → ℤ → List ℤ → Option Place
first_below width p threshold picture =
    first_from (λ x. lt_z (looked_at width p picture x) threshold) (λ x. nat_abs (row_at p x)) (λ x. x) p.x1 (suc p.x2 - p.x1)

-- ---- what is found, by order
-- column x is one of those, and its sample is below the threshold
pub record Below (width : ℕ) (p : Points) (threshold : ℤ) (picture : List ℤ) (x : ℕ) : Type 0 where
  pub from : p.x1 ≤ x
  pub to : x ≤ p.x2
  pub below : looked_at width p picture x <ℤ threshold

-- row y and column x, inside the picture, hold the first such sample
pub record FirstBelow (width height : ℕ) (p : Points) (threshold : ℤ) (picture : List ℤ) (y x : ℕ) : Type 0 where
  pub here : Below width p threshold picture x
  pub row : pos y ≡ row_at p x
  pub earlier : (j : ℕ) → j < x → ¬ Below width p threshold picture j
  pub inside : (y < height) × (x < width)

-- ---- what the search asks of two points
-- the second is to the right of the first, and both are within the largest picture
pub record Rightward (p : Points) : Type 0 where
  pub apart : p.x1 < p.x2
  pub columns : p.x2 < largest_side
  pub rows : max p.y1 p.y2 < largest_side

-- and within a picture of that width and so many places
pub record Lie (width places : ℕ) (p : Points) : Type 0 where
  pub rightward : Rightward p
  pub columns : p.x2 < width
  pub rows : max p.y1 p.y2 * width + width ≤ places
