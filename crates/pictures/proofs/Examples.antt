-- The moves of a setting, the figures of an outcome, its extremes and the lines counted under each border, worked out by the checker. Assumes nothing.
use Prim.Native.Nat.{ℕ}
use mathlib.Core.Path.{◌≡◌, refl}
use mathlib.Core.List.{List, [], ◌∷◌, ◌++◌, map}
use lib.IntN.{ℤ, pos, negsuc}
use lib.ListN.{replicate}
use Rattle.arith.specs.Whole.{floor, remainder, round, min_ℤ, max_ℤ}
use Rattle.arith.specs.Sum.{Σ}
use Rattle.arith.specs.Move.{fraction, whole}
use Rattle.lists.specs.Tab.{tab}
use Rattle.lists.specs.Line.{wrap}
use Rattle.lists.specs.Ends.{picked, smallest_in_rows, largest_in_rows}
use Rattle.refusals.specs.Tests.{bad_side, bad_size, short, bad_kernel, beyond_of, first_from, first_bad}
use Rattle.refusals.specs.Judging.{number_of, row_of, column_of}
use Rattle.settings.specs.declared.Border.{Border}
use Rattle.settings.specs.declared.Border.TheVariants.{Wrapped, Background}
use Rattle.settings.specs.declared.Setting.{Setting}
use Rattle.kernels.specs.declared.Kernel.TheVariants.{Keys}
use Rattle.kernels.specs.Kernel.{weigh}
use Rattle.moves.specs.Move.{first, mixed, source, moved}
use Rattle.moves.specs.Border.{far, gone, fraction_in, bordered, bad_background}
use Rattle.lists.specs.Picture.{picture, pictured}
use Rattle.passes.specs.Picture.{rows_moved, straighten}
use Rattle.passes.specs.Count.{interpolated, count}
use Rattle.acceptance.specs.Judge.{too_short, bad_centre, bad_shears, judged_on}
use Rattle.pictures.specs.Answer.{Outcome, count_of, smallest_of, largest_of, row_moves, column_moves, third_rows, verdict_of, outcome_of}

-- a wrapped setting: kernel, centre and shears
abbrev set : ℕ → ℕ → ℕ → ℤ → ℤ → Setting
set kernel cx cy A B = record { kernel = kernel; cx = cx; cy = cy; a = A; b = B; border = Wrapped }

abbrev still : Setting
still = set 0 0 0 (pos 0) (pos 0)

-- a picture of 3 by 2 with centre (2,1), A = 1,000 and B = -2,048
abbrev asked : Setting
asked = set 1 2 1 (pos 1000) (negsuc 2047)

-- row 0 moves by 1,000·(0 - 1), columns 0 and 1 by -2,048·(0 - 2) and -2,048·(1 - 2)
moves : row_moves asked 0 ∷ column_moves asked 0 ∷ column_moves asked 1 ∷ [] ≡ negsuc 999 ∷ pos 4096 ∷ pos 2048 ∷ []
moves = refl

abbrev samples : ℕ → List ℤ
samples v = pos 1000 ∷ pos 4000 ∷ pos 2000 ∷ pos 3000 ∷ pos 9000 ∷ pos v ∷ []

-- number, row, column and count of its outcome: refused for the sample in row 1 and column 2, and accepted, where row 0 is interpolated
-- twice and column 1 once
abbrev figures : Outcome → List ℕ
figures o = number_of o ∷ row_of o ∷ column_of o ∷ count_of o ∷ []

-- a call that lends 8 places for its result, and leaves the straightened picture in the first 6
abbrev answered : ℕ → Outcome
answered v =
    outcome_of (verdict_of 3 2 asked (samples v) (replicate 8 (pos 0)) (replicate 36 (pos 0))) 3 2 asked
    (straighten Wrapped Keys 3 2 (row_moves asked) (column_moves asked) (samples v) ++ (negsuc 6 ∷ pos 20000 ∷ []))

outcomes : figures (answered 32768) ∷ figures (answered 32767) ∷ [] ≡ (6 ∷ 1 ∷ 2 ∷ 0 ∷ []) ∷ (0 ∷ 0 ∷ 0 ∷ 3 ∷ []) ∷ []
unfolding judged_on bad_size bad_side too_short short bad_centre bad_shears bad_kernel bad_background first_bad first_from beyond_of floor remainder fraction gone fraction_in interpolated count
outcomes = refl

-- the smallest and the largest sample: refused, 0; accepted, those of the result, one in each of its rows, and those over the rows of pass 3. The
-- picture has 1,000 and 9,000, and over passes 1 to 3 together the largest would be 9,000
abbrev extremes : Outcome → List ℤ
extremes o = smallest_of o ∷ largest_of o ∷ []

result_extremes : extremes (answered 32768) ∷ extremes (answered 5000) ∷ [] ≡ (pos 0 ∷ pos 0 ∷ []) ∷ (pos 1459 ∷ pos 6419 ∷ []) ∷ []
unfolding picked min_ℤ max_ℤ straighten pictured picture rows_moved bordered moved source mixed first weigh Σ wrap tab round whole judged_on bad_size bad_side too_short short bad_centre bad_shears bad_kernel bad_background first_bad first_from beyond_of floor remainder fraction gone fraction_in interpolated count
result_extremes = refl

rows_extremes : smallest_in_rows 3 2 (third_rows 3 2 asked (samples 5000)) ∷ largest_in_rows 3 2 (third_rows 3 2 asked (samples 5000)) ∷ [] ≡ pos 1459 ∷ pos 6419 ∷ []
unfolding picked min_ℤ max_ℤ picture rows_moved bordered moved source mixed first weigh Σ wrap round whole floor remainder fraction
rows_extremes = refl

-- a picture of 2 by 9 with centre (0,0) and A = 1,000: wrapped, its rows 1 to 8 are interpolated twice; on background row 8 moves by less than
-- 2 samples, and with A = 1,100 it moves by more and becomes background, which is not counted
rows_counted :
    map (λ (e : Border). count e 2 9 (row_moves (set 0 0 0 (pos 1000) (pos 0))) (column_moves still)) (Wrapped ∷ Background (pos 0) ∷ [])
    ≡ 16 ∷ 16 ∷ []
unfolding floor remainder fraction far gone fraction_in interpolated count
rows_counted = refl

far_rows_not_counted :
    map (λ (e : Border). count e 2 9 (row_moves (set 0 0 0 (pos 1100) (pos 0))) (column_moves still)) (Wrapped ∷ Background (pos 0) ∷ [])
    ≡ 16 ∷ 14 ∷ []
unfolding floor remainder fraction far gone fraction_in interpolated count
far_rows_not_counted = refl
