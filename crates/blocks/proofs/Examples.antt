-- The slices of a small block in each plane, work places, verdicts at both ends of every range and one past each, in the order of the numbers, the place
-- that a refusal names, and a block straightened in each plane, worked out by the checker. Assumes nothing.
use Prim.Native.Nat.{ℕ, ◌*◌}
use mathlib.Core.Path.{◌≡◌, refl}
use mathlib.Core.List.{List, [], ◌∷◌, ◌++◌, map}
use lib.Dec.{lit≤}
use lib.IntN.{ℤ, pos, negsuc}
use lib.ListN.{replicate}
use Rattle.arith.specs.Whole.{floor, remainder, round, min_ℤ, max_ℤ}
use Rattle.arith.specs.Sum.{Σ}
use Rattle.arith.specs.Move.{fraction, whole}
use Rattle.lists.specs.Tab.{tab}
use Rattle.lists.specs.Line.{wrap}
use Rattle.lists.specs.Ends.{picked, extremes_of}
use Rattle.std.specs.Prelude.{Err}
use Rattle.refusals.specs.declared.Refusal.TheVariants.{BadSize, BadPlane, TooShort, BadCentre, TooFar, BadKernel, BadBackground, BelowThreshold}
use Rattle.refusals.specs.Judging.{Verdict, accepted}
use Rattle.refusals.specs.Tests.{short, bad_kernel, beyond_of, first_from, first_bad}
use Rattle.refusals.proofs.First.{one_number_good}
use Rattle.settings.specs.declared.Border.TheVariants.{Wrapped, Background}
use Rattle.settings.specs.declared.Setting.{Setting}
use Rattle.settings.specs.Setting.{with_border}
use Rattle.kernels.specs.Kernel.{weigh}
use Rattle.moves.specs.Move.{first, mixed, source, moved}
use Rattle.moves.specs.Border.{gone, fraction_in, bordered, bad_background}
use Rattle.lists.specs.Picture.{picture, pictured}
use Rattle.passes.specs.Picture.{rows_moved}
use Rattle.passes.specs.Count.{interpolated, count}
use Rattle.acceptance.specs.Judge.{bad_centre, bad_shears, range}
use Rattle.planes.specs.Slices.{slice_of}
use Rattle.blocks.specs.Block.{slices_of, slice_at, row_at, column_at, straighten_block}
use Rattle.blocks.specs.Judge.{bad_sides, bad_plane, room_of, work_places, too_short, judged}
use Rattle.blocks.specs.Answer.{Outcome, number_of, depth_of, row_of, column_of, count_of, smallest_of, largest_of, outcome_by, count_over, smallest_over, largest_over, verdict_of}

abbrev planes : List ℕ
planes = 0 ∷ 1 ∷ 2 ∷ []

-- ---- a block of 2 by 3 by 4
-- its slices in each plane
across_and_down : slices_of 2 3 4 0 ≡ record { columns = 2; rows = 3; slices = 4; along = 1; across = 2; step = 6 }
across_and_down = refl

across_and_depth : slices_of 2 3 4 1 ≡ record { columns = 2; rows = 4; slices = 3; along = 1; across = 6; step = 2 }
across_and_depth = refl

down_and_depth : slices_of 2 3 4 2 ≡ record { columns = 3; rows = 4; slices = 2; along = 2; across = 6; step = 1 }
down_and_depth = refl

-- slice, row and column, in each plane, of place 17: depth 2, row 2, column 1
coordinates : map (λ plane. slice_at 2 3 plane 17 ∷ row_at 2 3 plane 17 ∷ column_at 2 3 plane 17 ∷ []) planes ≡ (2 ∷ 2 ∷ 1 ∷ []) ∷ (2 ∷ 2 ∷ 1 ∷ []) ∷ (1 ∷ 2 ∷ 2 ∷ []) ∷ []
coordinates = refl

-- of place 20: depth 3, row 1, column 0
coordinates_20 : map (λ plane. slice_at 2 3 plane 20 ∷ row_at 2 3 plane 20 ∷ column_at 2 3 plane 20 ∷ []) planes ≡ (3 ∷ 1 ∷ 0 ∷ []) ∷ (1 ∷ 3 ∷ 0 ∷ []) ∷ (0 ∷ 3 ∷ 1 ∷ []) ∷ []
coordinates_20 = refl

-- its first slice in each plane, where place p holds p
slices : map (λ plane. slice_of (slices_of 2 3 4 plane) (tab pos 24) 0) planes
    ≡ (pos 0 ∷ pos 1 ∷ pos 2 ∷ pos 3 ∷ pos 4 ∷ pos 5 ∷ [])
    ∷ (pos 0 ∷ pos 1 ∷ pos 6 ∷ pos 7 ∷ pos 12 ∷ pos 13 ∷ pos 18 ∷ pos 19 ∷ [])
    ∷ (pos 0 ∷ pos 2 ∷ pos 4 ∷ pos 6 ∷ pos 8 ∷ pos 10 ∷ pos 12 ∷ pos 14 ∷ pos 16 ∷ pos 18 ∷ pos 20 ∷ pos 22 ∷ [])
    ∷ []
unfolding slice_of pictured tab
slices = refl

-- ---- work places: 12 for each sample of the plane's longer side
asked : map (work_places 2 3 4) (0 ∷ 1 ∷ 2 ∷ 3 ∷ []) ≡ 36 ∷ 48 ∷ 48 ∷ 0 ∷ []
unfolding work_places bad_sides bad_plane
asked = refl

asked_longest : work_places 128 1 1 0 ∷ work_places 1 128 1 0 ∷ work_places 1 1 128 0 ∷ work_places 1 1 128 1 ∷ work_places 128 1 1 2 ∷ [] ≡ 1536 ∷ 1536 ∷ 12 ∷ 1536 ∷ 12 ∷ []
unfolding work_places bad_sides bad_plane
asked_longest = refl

asked_refused :
    work_places 0 1 1 0 ∷ work_places 1 0 1 0 ∷ work_places 1 1 0 0 ∷ work_places 129 1 1 0 ∷ work_places 1 129 1 0 ∷ work_places 1 1 129 0 ∷ []
    ≡ 0 ∷ 0 ∷ 0 ∷ 0 ∷ 0 ∷ 0 ∷ []
unfolding work_places bad_sides bad_plane
asked_refused = refl

-- ---- verdicts
-- a wrapped setting: kernel, centre and shears
abbrev set : ℕ → ℕ → ℕ → ℤ → ℤ → Setting
set kernel cx cy A B = record { kernel = kernel; cx = cx; cy = cy; a = A; b = B; border = Wrapped }

abbrev still : Setting
still = set 0 0 0 (pos 0) (pos 0)

-- a block of zeros, with a result and work of just the places that they need
abbrev sized : ℕ → ℕ → ℕ → ℕ → Verdict
sized W H D plane = judged W H D plane still (replicate (W * H * D) (pos 0)) (W * H * D) (room_of (slices_of W H D plane))

-- a block of 2 by 3 by 4 zeros: with buffers of so many places, and with a setting
abbrev lent : ℕ → ℕ → ℕ → ℕ → Verdict
lent plane block result work = judged 2 3 4 plane still (replicate block (pos 0)) result work

abbrev turned : ℕ → Setting → Verdict
turned plane set = judged 2 3 4 plane set (replicate 24 (pos 0)) 24 48

sides :
    sized 1 1 1 0 ∷ sized 0 1 1 0 ∷ sized 1 0 1 0 ∷ sized 1 1 0 0 ∷ sized 129 1 1 0 ∷ sized 1 129 1 0 ∷ sized 1 1 129 0 ∷ []
    ≡ accepted ∷ Err BadSize ∷ Err BadSize ∷ Err BadSize ∷ Err BadSize ∷ Err BadSize ∷ Err BadSize ∷ []
unfolding judged bad_sides bad_plane too_short short bad_centre bad_shears bad_kernel bad_background first_bad first_from beyond_of
sides = refl

-- computed up to number 6, which zeros do not meet
longest_sides : sized 128 1 1 0 ∷ sized 1 128 1 1 ∷ sized 1 1 128 2 ∷ [] ≡ accepted ∷ accepted ∷ accepted ∷ []
unfolding judged bad_sides bad_plane too_short short bad_centre bad_shears bad_kernel bad_background beyond_of
longest_sides =
    rw (one_number_good range 128 1 128 (pos 0) (lit≤ tt) (lit≤ tt), one_number_good range 1 128 128 (pos 0) (lit≤ tt) (lit≤ tt)) refl

planes_known : map (λ plane. sized 1 1 1 plane) (0 ∷ 1 ∷ 2 ∷ 3 ∷ []) ≡ accepted ∷ accepted ∷ accepted ∷ Err BadPlane ∷ []
unfolding judged bad_sides bad_plane too_short short bad_centre bad_shears bad_kernel bad_background first_bad first_from beyond_of
planes_known = refl

-- block and result take all W·H·D places, and work those of the plane's two sides
buffers :
    lent 0 24 24 36 ∷ lent 0 23 24 36 ∷ lent 0 24 23 36 ∷ lent 0 24 24 35 ∷ lent 1 24 24 48 ∷ lent 1 24 24 47 ∷ lent 2 24 24 48 ∷ lent 2 24 24 47 ∷ []
    ≡ accepted ∷ Err TooShort ∷ Err TooShort ∷ Err TooShort ∷ accepted ∷ Err TooShort ∷ accepted ∷ Err TooShort ∷ []
unfolding judged bad_sides bad_plane too_short short bad_centre bad_shears bad_kernel bad_background first_bad first_from beyond_of
buffers = refl

-- the centre lies in the plane: 2 by 3, 2 by 4 and 3 by 4
centres : map (λ plane. turned plane (set 0 1 2 (pos 0) (pos 0)) ∷ turned plane (set 0 2 2 (pos 0) (pos 0)) ∷ turned plane (set 0 1 3 (pos 0) (pos 0)) ∷ []) planes
    ≡ (accepted ∷ Err BadCentre ∷ Err BadCentre ∷ []) ∷ (accepted ∷ Err BadCentre ∷ accepted ∷ []) ∷ (accepted ∷ accepted ∷ accepted ∷ []) ∷ []
unfolding judged bad_sides bad_plane too_short short bad_centre bad_shears bad_kernel bad_background first_bad first_from beyond_of
centres = refl

centres_past :
    turned 1 (set 0 1 4 (pos 0) (pos 0)) ∷ turned 2 (set 0 3 3 (pos 0) (pos 0)) ∷ turned 2 (set 0 2 4 (pos 0) (pos 0)) ∷ []
    ≡ Err BadCentre ∷ Err BadCentre ∷ Err BadCentre ∷ []
unfolding judged bad_sides bad_plane too_short short bad_centre bad_shears bad_kernel bad_background first_bad first_from beyond_of
centres_past = refl

-- the other numbers of a setting are judged in every plane
settings :
    map (λ plane.
    turned plane (set 2 0 0 (pos 4096) (negsuc 4095)) ∷ turned plane (set 0 0 0 (pos 4097) (pos 0)) ∷ turned plane (set 0 0 0 (pos 0) (negsuc 4096))
    ∷ turned plane (set 3 0 0 (pos 0) (pos 0)) ∷ turned plane (with_border still (Background (negsuc 32766))) ∷ turned plane (with_border still (Background (pos 32768))) ∷ []) planes
    ≡ replicate 3 (accepted ∷ Err TooFar ∷ Err TooFar ∷ Err BadKernel ∷ accepted ∷ Err BadBackground ∷ [])
unfolding judged bad_sides bad_plane too_short short bad_centre bad_shears bad_kernel bad_background first_bad first_from beyond_of
settings = refl

-- two neighbouring numbers apply, and the one that is judged first is told: 17 stands between 1 and 2
lowest :
    judged 129 1 1 3 still [] 0 0
    ∷ judged 2 3 4 3 still [] 24 48
    ∷ judged 2 3 4 1 (set 0 2 0 (pos 0) (pos 0)) [] 24 48
    ∷ turned 1 (set 0 2 0 (pos 4097) (pos 0))
    ∷ turned 1 (set 3 0 0 (pos 4097) (pos 0))
    ∷ judged 1 1 1 1 (with_border (set 3 0 0 (pos 0) (pos 0)) (Background (pos 32768))) (pos 32768 ∷ []) 1 12
    ∷ judged 1 1 1 1 (with_border still (Background (pos 32768))) (pos 32768 ∷ []) 1 12
    ∷ []
    ≡ Err BadSize ∷ Err BadPlane ∷ Err TooShort ∷ Err BadCentre ∷ Err TooFar ∷ Err BadKernel ∷ Err BadBackground ∷ []
unfolding judged bad_sides bad_plane too_short short bad_centre bad_shears bad_kernel bad_background first_bad first_from beyond_of
lowest = refl

-- ---- the place that a refusal names
-- what a call on a block of 2 by 3 by 2 comes to: number, depth, row, column and count, with a result left as these samples are
abbrev came : ℕ → List ℤ → Outcome
came plane block = outcome_by 3 (judged 2 3 2 plane still block 12 36) (count_over (slices_of 2 3 2 plane) still) (extremes_of 12 block)

abbrev figures : Outcome → List ℕ
figures o = number_of o ∷ depth_of o ∷ row_of o ∷ column_of o ∷ count_of o ∷ []

-- place 5, depth 0, row 2, column 1, and place 6, depth 1, row 0, column 0, are beyond the range: the first in the order of storage is named in every
-- plane, though place 6 comes first by row and by column
first-named : map (λ plane. figures (came plane (replicate 5 (pos 32767) ++ (pos 32768 ∷ negsuc 32767 ∷ replicate 5 (pos 0))))) planes ≡ replicate 3 (6 ∷ 0 ∷ 2 ∷ 1 ∷ 0 ∷ [])
unfolding judged bad_sides bad_plane too_short short bad_centre bad_shears bad_kernel bad_background first_bad first_from beyond_of floor remainder fraction gone fraction_in interpolated count
first-named = refl

-- place 10, depth 1, row 2, column 0: of the last picture. The places after the twelve are not read
last-named :
    figures (came 1 (replicate 10 (negsuc 32766) ++ (negsuc 32767 ∷ pos 0 ∷ []))) ∷ figures (came 1 (replicate 12 (pos 0) ++ (pos 32768 ∷ []))) ∷ []
    ≡ (6 ∷ 1 ∷ 2 ∷ 0 ∷ 0 ∷ []) ∷ (0 ∷ 0 ∷ 0 ∷ 0 ∷ 0 ∷ []) ∷ []
unfolding judged bad_sides bad_plane too_short short bad_centre bad_shears bad_kernel bad_background first_bad first_from beyond_of floor remainder fraction gone fraction_in interpolated count
last-named = refl

-- under another number no place is named, whatever a refusal holds, and the height may be 0
nowhere :
    map (λ refusal. figures (outcome_by 0 (Err refusal) 0 (extremes_of 1 []))) (BadSize ∷ BelowThreshold (record { row = 7; column = 7 }) ∷ [])
    ≡ (1 ∷ 0 ∷ 0 ∷ 0 ∷ 0 ∷ []) ∷ (15 ∷ 0 ∷ 0 ∷ 0 ∷ 0 ∷ []) ∷ []
nowhere = refl

-- ---- a block of 2 by 2 by 2, straightened by whole samples
abbrev eight : List ℤ
eight = pos 1 ∷ pos 2 ∷ pos 3 ∷ pos 4 ∷ pos 5 ∷ pos 6 ∷ pos 7 ∷ pos 8 ∷ []

-- B = 4,096 and centre (0,0): in every slice the two samples of column 1 change places
columns_moved : map (λ plane. straighten_block 2 2 2 plane (set 0 0 0 (pos 0) (pos 4096)) eight) planes
    ≡ (pos 1 ∷ pos 4 ∷ pos 3 ∷ pos 2 ∷ pos 5 ∷ pos 8 ∷ pos 7 ∷ pos 6 ∷ [])
    ∷ (pos 1 ∷ pos 6 ∷ pos 3 ∷ pos 8 ∷ pos 5 ∷ pos 2 ∷ pos 7 ∷ pos 4 ∷ [])
    ∷ (pos 1 ∷ pos 2 ∷ pos 7 ∷ pos 8 ∷ pos 5 ∷ pos 6 ∷ pos 3 ∷ pos 4 ∷ [])
    ∷ []
unfolding straighten_block tab rows_moved bordered moved source mixed first weigh Σ wrap round whole floor remainder fraction
columns_moved = refl

-- A = 4,096 too, and row 1 is moved before and after: every slice is turned over its diagonal
all_moved : map (λ plane. straighten_block 2 2 2 plane (set 0 0 0 (pos 4096) (pos 4096)) eight) planes
    ≡ (pos 1 ∷ pos 3 ∷ pos 2 ∷ pos 4 ∷ pos 5 ∷ pos 7 ∷ pos 6 ∷ pos 8 ∷ [])
    ∷ (pos 1 ∷ pos 5 ∷ pos 3 ∷ pos 7 ∷ pos 2 ∷ pos 6 ∷ pos 4 ∷ pos 8 ∷ [])
    ∷ (pos 1 ∷ pos 2 ∷ pos 5 ∷ pos 6 ∷ pos 3 ∷ pos 4 ∷ pos 7 ∷ pos 8 ∷ [])
    ∷ []
unfolding straighten_block tab rows_moved bordered moved source mixed first weigh Σ wrap round whole floor remainder fraction
all_moved = refl

-- ---- the figures of an accepted call, over all slices
-- B = 2,048: in every slice column 1 is interpolated, once, and its two samples become their mean; the smallest stays in the first slice or row, the
-- largest in the last. Of one slice the count would be 1
abbrev half : Setting
half = set 0 0 0 (pos 0) (pos 2048)

abbrev answered : ℕ → Outcome
answered plane =
    outcome_by 2 (verdict_of 2 2 2 plane half eight (replicate 8 (pos 0)) (replicate 24 (pos 0))) (count_over (slices_of 2 2 2 plane) half)
    (extremes_of 8 (straighten_block 2 2 2 plane half eight ++ (negsuc 99 ∷ pos 99 ∷ [])))

told : map (λ plane. figures (answered plane)) planes ≡ replicate 3 (0 ∷ 0 ∷ 0 ∷ 0 ∷ 2 ∷ [])
unfolding judged bad_sides bad_plane too_short short bad_centre bad_shears bad_kernel bad_background first_bad first_from beyond_of floor remainder fraction gone fraction_in interpolated count
told = refl

extremes_told : map (λ plane. smallest_of (answered plane) ∷ largest_of (answered plane) ∷ []) planes ≡ (pos 1 ∷ pos 7 ∷ []) ∷ (pos 1 ∷ pos 7 ∷ []) ∷ (pos 1 ∷ pos 6 ∷ []) ∷ []
unfolding judged bad_sides bad_plane too_short short bad_centre bad_shears bad_kernel bad_background first_bad first_from beyond_of picked min_ℤ max_ℤ straighten_block tab rows_moved bordered moved source mixed first weigh Σ wrap round whole floor remainder fraction
extremes_told = refl

extremes_over : map (λ plane. smallest_over (slices_of 2 2 2 plane) half eight ∷ largest_over (slices_of 2 2 2 plane) half eight ∷ []) planes ≡ (pos 1 ∷ pos 7 ∷ []) ∷ (pos 1 ∷ pos 7 ∷ []) ∷ (pos 1 ∷ pos 6 ∷ []) ∷ []
unfolding slice_of picture pictured picked min_ℤ max_ℤ tab rows_moved bordered moved source mixed first weigh Σ wrap round whole floor remainder fraction
extremes_over = refl
