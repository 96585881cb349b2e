-- What levelling with a picture answers: the plain call's step, or the first number that applies, in the order 1, 2, 6, 7, 8, 15. Assumes nothing.
use Rattle.std.specs.Prelude.{ℕ, ◌≡◌, cond, Option, Result, Ok, Err, List, eqb, ℤ, pos, nat_abs, ◌-ℤ◌, length}
use Rattle.refusals.specs.declared.Place.{Place}
use Rattle.refusals.specs.declared.Refusal.{Refusal}
use Rattle.refusals.specs.declared.Refusal.TheVariants.{Outside, TooSteep, BelowThreshold}
use Rattle.refusals.specs.Tests.{first_bad}
use Rattle.refusals.specs.Judging.{Verdict, accepted, refused_if, of_found, and_then, answer_by, number_of, row_of, column_of, is_found, Figures, under_six}
use Rattle.readings.specs.Answers.{range, judged, lowest}
use Rattle.levelling.specs.Level.{largest_side, any_outside, steep, levelling, level_of, Levels}
use Rattle.graticule.specs.declared.Points.{Points}
use Rattle.graticule.specs.Look.{first_below, Below, FirstBelow}

-- two points as natural numbers: inside a picture no coordinate is negative
abbrev pub points_of : ℤ → ℤ → ℤ → ℤ → Points
points_of x1 y1 x2 y2 = record { x1 = nat_abs x1; y1 = nat_abs y1; x2 = nat_abs x2; y2 = nat_abs y2 }

-- 7 and 8 of two points in a picture
unfoldable pub judged_points : ℕ → ℕ → ℤ → ℤ → ℤ → ℤ → Verdict
judged_points width height x1 y1 x2 y2 = refused_if (any_outside width height x1 y1 x2 y2) Outside (refused_if (steep (x2 -ℤ x1) (y2 -ℤ y1)) TooSteep accepted)

-- every number but 15: those of a call that lends a picture, and then those of the points
unfoldable pub judged_others : ℕ → ℕ → ℤ → ℤ → ℤ → ℤ → List ℤ → Verdict
judged_others width height x1 y1 x2 y2 picture = and_then (judged width height (length picture) picture) (judged_points width height x1 y1 x2 y2)

-- 15, last of all: a sample on the line below the threshold, the first by its row and column
unfoldable pub judged_line : ℕ → ℕ → ℤ → ℤ → ℤ → ℤ → ℤ → List ℤ → Verdict
judged_line width height x1 y1 x2 y2 threshold picture =
    and_then (judged_others width height x1 y1 x2 y2 picture) (of_found BelowThreshold (first_below width (points_of x1 y1 x2 y2) threshold picture))

-- the full answer
unfoldable pub checked_of : ℕ → ℕ → ℤ → ℤ → ℤ → ℤ → ℤ → List ℤ → Result ℤ Refusal
checked_of width height x1 y1 x2 y2 threshold picture =
    answer_by (judged_line width height x1 y1 x2 y2 threshold picture) (levelling (x2 -ℤ x1) (y2 -ℤ y1))

-- the step of an answer, 0 where it is refused
abbrev pub step_of : Result ℤ Refusal → ℤ
step_of (Ok t) = t
step_of (Err refusal) = pos 0

-- ---- what the call promises
-- the lowest number that applies
abbrev pub lowest_of : ℕ → ℕ → ℤ → ℤ → ℤ → ℤ → ℤ → List ℤ → ℕ
lowest_of width height x1 y1 x2 y2 threshold picture =
    lowest width height (length picture) picture
    (cond (any_outside width height x1 y1 x2 y2) 7
    (cond (steep (x2 -ℤ x1) (y2 -ℤ y1)) 8
    (cond (is_found (first_below width (points_of x1 y1 x2 y2) threshold picture)) 15 0)))

-- row and column are 0 but under 6 and 15
abbrev pub named : Option Place → Option Place → ℕ → Option Place
named bad below number = cond (eqb number 15) below (under_six bad number)

-- r is the answer. Where no other number applies it is refused just where some looked-at sample is below the threshold, and then names the first such column
-- with its row; otherwise it has the plain call's step, the one with the smallest miss
pub record LevelChecked (width height : ℕ) (x1 y1 x2 y2 threshold : ℤ) (picture : List ℤ) (r : Result ℤ Refusal) : Type 0 where
  pub answer : r ≡ checked_of width height x1 y1 x2 y2 threshold picture
  pub figures : Figures (lowest_of width height x1 y1 x2 y2 threshold picture) (named (first_bad range width height picture) (first_below width (points_of x1 y1 x2 y2) threshold picture)) r
  pub below : judged_others width height x1 y1 x2 y2 picture ≡ accepted → (x : ℕ) → Below width (points_of x1 y1 x2 y2) threshold picture x → number_of r ≡ 15
  pub first : number_of r ≡ 15 → FirstBelow width height (points_of x1 y1 x2 y2) threshold picture (row_of r) (column_of r)
  pub plain : number_of r ≡ 0 → level_of largest_side largest_side x1 y1 x2 y2 ≡ Ok (step_of r)
  pub levels : number_of r ≡ 0 → Levels (x2 -ℤ x1) (y2 -ℤ y1) (step_of r)
  pub refused : ¬ (number_of r ≡ 0) → step_of r ≡ pos 0
