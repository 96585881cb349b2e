-- Work places, verdicts on a line at the ends of each range and in the order of the numbers, the figures of outcomes and their extremes, worked out by
-- the checker.
-- Assumes nothing.
use mathlib.Core.Path.{◌≡◌, refl}
use mathlib.Core.List.{List, [], ◌∷◌, ◌++◌, map}
use Prim.Native.Nat.{ℕ}
use lib.Dec.{lit≤}
use lib.IntN.{ℤ, pos, negsuc}
use lib.ListN.{replicate}
use Rattle.std.specs.Prelude.{Result, Err}
use Rattle.arith.specs.Whole.{floor, remainder, round, min_ℤ, max_ℤ}
use Rattle.arith.specs.Sum.{Σ}
use Rattle.arith.specs.Move.{fraction, whole}
use Rattle.lists.specs.Tab.{tab}
use Rattle.lists.specs.Line.{wrap}
use Rattle.lists.specs.Ends.{picked}
use Rattle.refusals.specs.declared.Refusal.{Refusal}
use Rattle.refusals.specs.declared.Refusal.TheVariants.{BadSize, TooShort, TooFar, BadKernel, BadSample, BadBackground}
use Rattle.refusals.specs.Judging.{Verdict, accepted, number_of, row_of, column_of}
use Rattle.refusals.specs.Tests.{bad_side, short, bad_kernel, beyond_of, first_from, first_bad}
use Rattle.refusals.proofs.First.{one_number_good}
use Rattle.settings.specs.declared.Border.{Border}
use Rattle.settings.specs.declared.Border.TheVariants.{Wrapped, Background}
use Rattle.kernels.specs.declared.Kernel.TheVariants.{Keys}
use Rattle.kernels.specs.Kernel.{weigh}
use Rattle.moves.specs.Move.{first, mixed, source, moved}
use Rattle.moves.specs.Border.{far, gone, fraction_in, bordered, move_in, bad_background}
use Rattle.lines.specs.declared.Moved.{Moved}
use Rattle.lines.specs.Answer.{range, work_places, too_short, judged_by, judged, is_interpolated, outcome_of, count_of, smallest_of, largest_of}

-- the work places of lengths at both ends, and of those one past each
asked : map work_places (1 ∷ 7 ∷ 1024 ∷ 0 ∷ 1025 ∷ []) ≡ 6 ∷ 42 ∷ 6144 ∷ 0 ∷ 0 ∷ []
unfolding work_places bad_side
asked = refl

-- a call: n, the kernel, d, the border, the line, and the places of the result and the work
data Call : Type 0 where
  call : ℕ → ℕ → ℤ → Border → List ℤ → ℕ → ℕ → Call

abbrev verdict_of : Call → Verdict
verdict_of (call n kernel d β line result work) = judged n kernel d β line result work

-- its outcome, where it leaves `left` in the result
abbrev outcome : Call → List ℤ → Result Moved Refusal
outcome (call n kernel d β line result work) left = outcome_of n kernel d β line result work left

-- samples at either end of their range, and one past each
abbrev ends : List ℤ
ends = pos 294912 ∷ negsuc 294911 ∷ []

abbrev past : List ℤ
past = pos 0 ∷ pos 294913 ∷ negsuc 294912 ∷ []

abbrev below : List ℤ
below = pos 0 ∷ pos 0 ∷ negsuc 294912 ∷ pos 294913 ∷ []

-- both ends of every range, and buffers of just n, n and 6n places
accepted_at_the_ends :
    map verdict_of
    (call 1 0 (pos 4194304) Wrapped ends 1 6
    ∷ call 2 2 (negsuc 4194303) Wrapped ends 2 12
    ∷ call 2 0 (pos 1) (Background (pos 32767)) ends 2 12
    ∷ call 2 0 (pos 1) (Background (negsuc 32766)) ends 2 12
    ∷ [])
    ≡ replicate 4 accepted
unfolding judged judged_by too_short bad_side short bad_kernel bad_background beyond_of first_bad first_from
accepted_at_the_ends = refl

-- computed up to number 6, which zeros do not meet
longest_accepted : verdict_of (call 1024 1 (pos 0) Wrapped (replicate 1024 (pos 0)) 1024 6144) ≡ accepted
unfolding judged judged_by too_short bad_side short bad_kernel bad_background beyond_of
longest_accepted = rw (one_number_good range 1024 1 1024 (pos 0) (lit≤ tt) (lit≤ tt)) refl

-- one past each end, and each buffer one place short
refused_past_the_ends :
    map verdict_of
    (call 0 0 (pos 0) Wrapped ends 2 12
    ∷ call 1025 0 (pos 0) Wrapped (replicate 1025 (pos 0)) 1025 6150
    ∷ call 3 0 (pos 0) Wrapped ends 3 18
    ∷ call 2 0 (pos 0) Wrapped ends 1 12
    ∷ call 2 0 (pos 0) Wrapped ends 2 11
    ∷ call 2 0 (pos 4194305) Wrapped ends 2 12
    ∷ call 2 0 (negsuc 4194304) Wrapped ends 2 12
    ∷ call 2 3 (pos 0) Wrapped ends 2 12
    ∷ call 2 0 (pos 0) (Background (pos 32768)) ends 2 12
    ∷ call 2 0 (pos 0) (Background (negsuc 32767)) ends 2 12
    ∷ [])
    ≡ Err BadSize
    ∷ Err BadSize
    ∷ Err TooShort
    ∷ Err TooShort
    ∷ Err TooShort
    ∷ Err TooFar
    ∷ Err TooFar
    ∷ Err BadKernel
    ∷ Err BadBackground
    ∷ Err BadBackground
    ∷ []
unfolding judged judged_by too_short bad_side short bad_kernel bad_background beyond_of first_bad first_from
refused_past_the_ends = refl

-- the first sample past its range, above or below, in row 0, whatever comes after it; not one that is past the n samples
first_bad_sample :
    map verdict_of (call 3 0 (pos 0) Wrapped past 3 18 ∷ call 4 0 (pos 0) Wrapped below 4 24 ∷ call 2 0 (pos 0) Wrapped below 2 12 ∷ [])
    ≡ Err (BadSample (record { row = 0; column = 1 })) ∷ Err (BadSample (record { row = 0; column = 2 })) ∷ accepted ∷ []
unfolding judged judged_by too_short bad_side short bad_kernel bad_background beyond_of first_bad first_from
first_bad_sample = refl

-- of two neighbouring numbers that both apply the one that is judged first is told: 12 stands between 5 and 6
first_of_two :
    map verdict_of
    (call 1025 0 (pos 0) Wrapped [] 0 0
    ∷ call 3 0 (pos 4194305) Wrapped past 3 17
    ∷ call 3 3 (pos 4194305) Wrapped past 3 18
    ∷ call 3 3 (pos 0) (Background (pos 32768)) past 3 18
    ∷ call 3 2 (pos 0) (Background (pos 32768)) past 3 18
    ∷ [])
    ≡ Err BadSize ∷ Err TooShort ∷ Err TooFar ∷ Err BadKernel ∷ Err BadBackground ∷ []
unfolding judged judged_by too_short bad_side short bad_kernel bad_background beyond_of first_bad first_from
first_of_two = refl

-- number, row, column and count: of a refused call, of a move by a 4,096th of a sample either way, of one by a whole sample, and on background of
-- a move by N samples and a 4,096th, which leaves nothing to count, and of one by a 4,096th less than N
abbrev figures : Call → List ℕ
figures c = let r = outcome c [] in number_of r ∷ row_of r ∷ column_of r ∷ count_of r ∷ []

figures_of_outcomes :
    map figures
    (call 3 0 (pos 2048) Wrapped past 3 18
    ∷ call 2 0 (pos 1) Wrapped ends 2 12
    ∷ call 2 0 (negsuc 0) Wrapped ends 2 12
    ∷ call 2 0 (negsuc 4095) Wrapped ends 2 12
    ∷ call 2 0 (pos 8193) (Background (pos 0)) ends 2 12
    ∷ call 2 0 (negsuc 8190) (Background (pos 0)) ends 2 12
    ∷ [])
    ≡ (6 ∷ 0 ∷ 1 ∷ 0 ∷ [])
    ∷ (0 ∷ 0 ∷ 0 ∷ 1 ∷ [])
    ∷ (0 ∷ 0 ∷ 0 ∷ 1 ∷ [])
    ∷ (0 ∷ 0 ∷ 0 ∷ 0 ∷ [])
    ∷ (0 ∷ 0 ∷ 0 ∷ 0 ∷ [])
    ∷ (0 ∷ 0 ∷ 0 ∷ 1 ∷ [])
    ∷ []
unfolding outcome_of is_interpolated fraction_in gone far fraction remainder floor judged judged_by too_short bad_side short bad_kernel bad_background beyond_of first_bad first_from
figures_of_outcomes = refl

-- the smallest and the largest output sample: a steep edge of 1,000 and 9,000 units, moved by half a sample under Keys, overshoots by 500 on either
-- side, and what stands in the result past its n places is not looked at; of a refused call, whose result holds what it held, both are 0
abbrev edge : List ℤ
edge = pos 1000 ∷ pos 1000 ∷ pos 1000 ∷ pos 9000 ∷ pos 9000 ∷ pos 9000 ∷ []

abbrev extremes : Call → List ℤ → List ℤ
extremes c left = let r = outcome c left in smallest_of r ∷ largest_of r ∷ []

extremes_of_outcomes :
    extremes (call 6 1 (pos 2048) Wrapped edge 8 36) (move_in Wrapped Keys (pos 2048) edge ++ (negsuc 6 ∷ pos 20000 ∷ []))
    ∷ extremes (call 3 1 (pos 2048) Wrapped past 3 18) (pos 5 ∷ pos 6 ∷ pos 7 ∷ [])
    ∷ []
    ≡ (pos 500 ∷ pos 9500 ∷ []) ∷ (pos 0 ∷ pos 0 ∷ []) ∷ []
unfolding outcome_of picked min_ℤ max_ℤ move_in bordered moved source mixed first weigh Σ wrap tab round whole is_interpolated fraction_in gone far fraction remainder floor judged judged_by too_short bad_side short bad_kernel bad_background beyond_of first_bad first_from
extremes_of_outcomes = refl
