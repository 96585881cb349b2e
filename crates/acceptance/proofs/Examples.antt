-- Work places, and verdicts at both ends of every range and one past each, in the order of the numbers, worked out by the checker. Assumes nothing.
use Prim.Native.Nat.{ℕ, ◌*◌, max}
use mathlib.Core.Path.{◌≡◌, refl}
use mathlib.Core.Bool.{true}
use mathlib.Core.List.{List, [], ◌∷◌, map}
use lib.Dec.{lit≤}
use lib.IntN.{ℤ, pos, negsuc}
use lib.ListN.{replicate}
use Rattle.std.specs.Prelude.{Err}
use Rattle.refusals.specs.declared.Refusal.TheVariants.{BadSize, TooShort, BadCentre, TooFar, BadKernel, BadSample, BadBackground, OtherSize}
use Rattle.refusals.specs.Judging.{Verdict, accepted}
use Rattle.refusals.specs.Tests.{bad_side, bad_size, short, bad_kernel, beyond_of, first_from, first_bad}
use Rattle.refusals.proofs.First.{one_number_good}
use Rattle.settings.specs.declared.Border.{Border}
use Rattle.settings.specs.declared.Border.TheVariants.{Wrapped, Background}
use Rattle.settings.specs.declared.Setting.{Setting}
use Rattle.settings.specs.Setting.{with_border}
use Rattle.moves.specs.Border.{bad_background}
use Rattle.acceptance.specs.Judge.{work_places, too_short, bad_centre, bad_shears, range, judged_on, judged}

-- the work places of sizes at both ends, and of those one past each
asked :
    work_places 1 1 ∷ work_places 3 2 ∷ work_places 2 3 ∷ work_places 1024 1 ∷ work_places 1 1024 ∷ []
    ≡ 12 ∷ 36 ∷ 36 ∷ 12288 ∷ 12288 ∷ []
unfolding work_places bad_size bad_side
asked = refl

asked_refused : work_places 0 1 ∷ work_places 1 0 ∷ work_places 1025 1 ∷ work_places 1 1025 ∷ [] ≡ 0 ∷ 0 ∷ 0 ∷ 0 ∷ []
unfolding work_places bad_size bad_side
asked_refused = refl

-- a wrapped setting: kernel, centre and shears
abbrev set : ℕ → ℕ → ℕ → ℤ → ℤ → Setting
set kernel cx cy A B = record { kernel = kernel; cx = cx; cy = cy; a = A; b = B; border = Wrapped }

abbrev still : Setting
still = set 0 0 0 (pos 0) (pos 0)

-- a picture of W·H zeros, with a result and work of just the places that they need
abbrev sized : ℕ → ℕ → Verdict
sized W H = judged W H still (replicate (W * H) (pos 0)) (W * H) (12 * max W H)

-- a picture of 3 by 2 zeros: with buffers of so many places, and with a setting
abbrev lent : ℕ → ℕ → ℕ → Verdict
lent picture result work = judged 3 2 still (replicate picture (pos 0)) result work

abbrev turned : Setting → Verdict
turned s = judged 3 2 s (replicate 6 (pos 0)) 6 36

-- a picture of 3 by 2 samples
abbrev held : List ℤ → Verdict
held picture = judged 3 2 still picture 6 36

sides :
    sized 1 1 ∷ sized 0 1 ∷ sized 1 0 ∷ sized 1025 1 ∷ sized 1 1025 ∷ []
    ≡ accepted ∷ Err BadSize ∷ Err BadSize ∷ Err BadSize ∷ Err BadSize ∷ []
unfolding judged_on bad_size bad_side too_short short bad_centre bad_shears bad_kernel bad_background first_bad first_from beyond_of
sides = refl

-- computed up to number 6, which zeros do not meet
longest_sides : sized 1024 1 ∷ sized 1 1024 ∷ [] ≡ accepted ∷ accepted ∷ []
unfolding judged_on bad_size bad_side too_short short bad_centre bad_shears bad_kernel bad_background beyond_of
longest_sides = rw (one_number_good range 1024 1 1024 (pos 0) (lit≤ tt) (lit≤ tt), one_number_good range 1 1024 1024 (pos 0) (lit≤ tt) (lit≤ tt)) refl

buffers :
    lent 6 6 36 ∷ lent 5 6 36 ∷ lent 6 5 36 ∷ lent 6 6 35 ∷ []
    ≡ accepted ∷ Err TooShort ∷ Err TooShort ∷ Err TooShort ∷ []
unfolding judged_on bad_size bad_side too_short short bad_centre bad_shears bad_kernel bad_background first_bad first_from beyond_of
buffers = refl

centres :
    turned (set 0 2 1 (pos 0) (pos 0)) ∷ turned (set 0 3 1 (pos 0) (pos 0)) ∷ turned (set 0 2 2 (pos 0) (pos 0)) ∷ []
    ≡ accepted ∷ Err BadCentre ∷ Err BadCentre ∷ []
unfolding judged_on bad_size bad_side too_short short bad_centre bad_shears bad_kernel bad_background first_bad first_from beyond_of
centres = refl

shears :
    turned (set 0 0 0 (pos 4096) (negsuc 4095))
    ∷ turned (set 0 0 0 (negsuc 4095) (pos 4096))
    ∷ turned (set 0 0 0 (pos 4097) (pos 0))
    ∷ turned (set 0 0 0 (negsuc 4096) (pos 0))
    ∷ turned (set 0 0 0 (pos 0) (pos 4097))
    ∷ turned (set 0 0 0 (pos 0) (negsuc 4096))
    ∷ []
    ≡ accepted ∷ accepted ∷ Err TooFar ∷ Err TooFar ∷ Err TooFar ∷ Err TooFar ∷ []
unfolding judged_on bad_size bad_side too_short short bad_centre bad_shears bad_kernel bad_background first_bad first_from beyond_of
shears = refl

kernels :
    map (λ k. turned (set k 0 0 (pos 0) (pos 0))) (0 ∷ 1 ∷ 2 ∷ 3 ∷ []) ≡ accepted ∷ accepted ∷ accepted ∷ Err BadKernel ∷ []
unfolding judged_on bad_size bad_side too_short short bad_centre bad_shears bad_kernel bad_background first_bad first_from beyond_of
kernels = refl

-- the first sample beyond the range is named, by its row and its column; samples past the W·H places are not read
samples :
    held (pos 32767 ∷ pos 0 ∷ negsuc 32766 ∷ pos 0 ∷ pos 0 ∷ pos 32767 ∷ pos 32768 ∷ [])
    ∷ held (pos 32767 ∷ pos 0 ∷ pos 0 ∷ pos 0 ∷ pos 0 ∷ pos 32768 ∷ negsuc 32767 ∷ [])
    ∷ held (pos 0 ∷ negsuc 32767 ∷ pos 0 ∷ pos 32768 ∷ pos 0 ∷ pos 0 ∷ [])
    ∷ []
    ≡ accepted ∷ Err (BadSample (record { row = 1; column = 2 })) ∷ Err (BadSample (record { row = 0; column = 1 })) ∷ []
unfolding judged_on bad_size bad_side too_short short bad_centre bad_shears bad_kernel bad_background first_bad first_from beyond_of
samples = refl

backgrounds :
    map (λ (e : Border). turned (with_border still e)) (Background (pos 32767) ∷ Background (negsuc 32766) ∷ Background (pos 32768) ∷ Background (negsuc 32767) ∷ [])
    ≡ accepted ∷ accepted ∷ Err BadBackground ∷ Err BadBackground ∷ []
unfolding judged_on bad_size bad_side too_short short bad_centre bad_shears bad_kernel bad_background first_bad first_from beyond_of
backgrounds = refl

-- two neighbouring numbers apply, and the one that is judged first is told: 12 stands between 5 and 6
lowest :
    judged 1025 1 still [] 0 0
    ∷ judged 3 2 (set 0 3 0 (pos 0) (pos 0)) [] 6 36
    ∷ turned (set 0 3 0 (pos 4097) (pos 0))
    ∷ turned (set 3 0 0 (pos 4097) (pos 0))
    ∷ judged 1 1 (with_border (set 3 0 0 (pos 0) (pos 0)) (Background (pos 32768))) (pos 32768 ∷ []) 1 12
    ∷ judged 1 1 (with_border still (Background (pos 32768))) (pos 32768 ∷ []) 1 12
    ∷ []
    ≡ Err BadSize ∷ Err TooShort ∷ Err BadCentre ∷ Err TooFar ∷ Err BadKernel ∷ Err BadBackground ∷ []
unfolding judged_on bad_size bad_side too_short short bad_centre bad_shears bad_kernel bad_background first_bad first_from beyond_of
lowest = refl

-- a ticket of another size is 14, after 2 and before 3
on_another_ticket :
    judged_on true 3 2 still (replicate 6 (pos 0)) 6 36
    ∷ judged_on true 1025 1 still [] 0 0
    ∷ judged_on true 3 2 still (replicate 6 (pos 0)) 6 35
    ∷ judged_on true 3 2 (set 0 3 0 (pos 0) (pos 0)) (replicate 6 (pos 0)) 6 36
    ∷ []
    ≡ Err OtherSize ∷ Err BadSize ∷ Err TooShort ∷ Err OtherSize ∷ []
unfolding judged_on bad_size bad_side too_short short bad_centre bad_shears bad_kernel bad_background first_bad first_from beyond_of
on_another_ticket = refl
