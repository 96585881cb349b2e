-- Which forecasts are accepted: the numbers at both ends of every range and one past each, and in their order, worked out by the checker; and that a forecast is
-- accepted just where no number applies. Assumes nothing.
use Prim.Native.Nat.{ℕ, ◌≤◌}
use mathlib.Core.Path.{◌≡◌, refl}
use mathlib.Core.List.{[], ◌∷◌, map}
use borrow.Author.Tests.{ltb-false}
use lib.IntN.{pos, negsuc}
use lib.Dec.{ltb}
use Rattle.std.specs.Prelude.{Ok, Err}
use Rattle.refusals.specs.declared.Refusal.TheVariants.{BadSize, BadCentre, TooFar, BadKernel, TooLarge, BadBackground}
use Rattle.refusals.specs.Tests.{bad_side, bad_size, bad_kernel, beyond_of}
use Rattle.refusals.specs.Judging.{Verdict, accepted, refused_if, answer_by, number_of, when_accepted}
use Rattle.refusals.proofs.Tests.{size_good}
use Rattle.refusals.proofs.Judging.{refused_if-accepted, and_then-accepted, accepted_by_zero}
use Rattle.settings.specs.declared.Border.TheVariants.{Wrapped, Background}
use Rattle.settings.specs.declared.Setting.{Setting}
use Rattle.settings.specs.Setting.{with_kernel, with_centre, with_shears, with_border}
use Rattle.moves.specs.Border.{bad_background}
use Rattle.acceptance.specs.Judge.{bad_centre, bad_shears, range, judged_setting, FitSetting}
use Rattle.acceptance.proofs.Accepted.{fit_size, setting_accepted, accepted_setting}
use Rattle.forecasts.specs.declared.Figures.{Figures}
use Rattle.forecasts.specs.Figures.{judged_ahead, figures_of, no_figures, figures_in, forecast_of}

abbrev still : Setting
still = record { kernel = 0; cx = 0; cy = 0; a = pos 0; b = pos 0; border = Wrapped }

abbrev sized : ℕ → ℕ → Verdict
sized W H = judged_ahead W H still 32767

abbrev turned : Setting → Verdict
turned s = judged_ahead 3 2 s 32767

sides :
    sized 1 1 ∷ sized 1024 1024 ∷ sized 0 1 ∷ sized 1 0 ∷ sized 1025 1 ∷ sized 1 1025 ∷ []
    ≡ accepted ∷ accepted ∷ Err BadSize ∷ Err BadSize ∷ Err BadSize ∷ Err BadSize ∷ []
unfolding judged_ahead bad_size bad_side bad_centre bad_shears bad_kernel bad_background beyond_of
sides = refl

-- 6 is an M over 32,767, and names no place
largest :
    map (λ (M : ℕ). judged_ahead 3 2 still M) (0 ∷ 32767 ∷ 32768 ∷ 4294967295 ∷ []) ≡ accepted ∷ accepted ∷ Err TooLarge ∷ Err TooLarge ∷ []
unfolding judged_ahead bad_size bad_side bad_centre bad_shears bad_kernel bad_background beyond_of
largest = refl

settings :
    turned (with_centre still 2 1)
    ∷ turned (with_centre still 3 1)
    ∷ turned (with_centre still 2 2)
    ∷ turned (with_shears still (pos 4096) (negsuc 4095))
    ∷ turned (with_shears still (pos 4097) (pos 0))
    ∷ turned (with_shears still (pos 0) (negsuc 4096))
    ∷ turned (with_kernel still 2)
    ∷ turned (with_kernel still 3)
    ∷ turned (with_border still (Background (negsuc 32766)))
    ∷ turned (with_border still (Background (pos 32768)))
    ∷ []
    ≡ accepted
    ∷ Err BadCentre
    ∷ Err BadCentre
    ∷ accepted
    ∷ Err TooFar
    ∷ Err TooFar
    ∷ accepted
    ∷ Err BadKernel
    ∷ accepted
    ∷ Err BadBackground
    ∷ []
unfolding judged_ahead bad_size bad_side bad_centre bad_shears bad_kernel bad_background beyond_of
settings = refl

-- everything is wrong, and then one number after the other is mended: 12 stands before 6
order :
    judged_ahead 0 2 (with_border (with_kernel (with_shears (with_centre still 3 0) (pos 4097) (pos 0)) 3) (Background (pos 32768))) 32768
    ∷ judged_ahead 3 2 (with_border (with_kernel (with_shears (with_centre still 3 0) (pos 4097) (pos 0)) 3) (Background (pos 32768))) 32768
    ∷ judged_ahead 3 2 (with_border (with_kernel (with_shears still (pos 4097) (pos 0)) 3) (Background (pos 32768))) 32768
    ∷ judged_ahead 3 2 (with_border (with_kernel still 3) (Background (pos 32768))) 32768
    ∷ judged_ahead 3 2 (with_border still (Background (pos 32768))) 32768
    ∷ judged_ahead 3 2 still 32768
    ∷ []
    ≡ Err BadSize ∷ Err BadCentre ∷ Err TooFar ∷ Err BadKernel ∷ Err BadBackground ∷ Err TooLarge ∷ []
unfolding judged_ahead bad_size bad_side bad_centre bad_shears bad_kernel bad_background beyond_of
order = refl

-- ---- the laws
-- what an accepted forecast has passed
pub record Foreseeable (W H : ℕ) (s : Setting) (M : ℕ) : Type 0 where
  pub width : (1 ≤ W) × (W ≤ 1024)
  pub height : (1 ≤ H) × (H ≤ 1024)
  pub setting : FitSetting W H s
  pub small : M ≤ 32767

pub accepted_ahead : (W H : ℕ) (s : Setting) (M : ℕ) → judged_ahead W H s M ≡ accepted → Foreseeable W H s M
unfolding judged_ahead
accepted_ahead W H s M e =
    let one = refused_if-accepted (bad_size W H) BadSize _ tt e in
    let setting = and_then-accepted (judged_setting W H s) _ tt one.1 in
    let six = refused_if-accepted (ltb range M) TooLarge _ tt setting.1 in
    let size = size_good one.0 in
    record { width = size.0; height = size.1; setting = accepted_setting W H s setting.0; small = ltb-false range M six.0 }

-- past the size and the setting M alone is judged
pub only_largest : (W H : ℕ) (s : Setting) (M : ℕ) → (1 ≤ W) × (W ≤ 1024) → (1 ≤ H) × (H ≤ 1024) → FitSetting W H s
    → judged_ahead W H s M ≡ refused_if (ltb range M) TooLarge accepted
unfolding judged_ahead
only_largest W H s M width height setting = rw (fit_size W H width height, setting_accepted setting) refl

-- no number is 0, so that 0 says that the forecast is accepted
pub zero_ahead : (W H : ℕ) (s : Setting) (M : ℕ) → number_of (judged_ahead W H s M) ≡ 0 → judged_ahead W H s M ≡ accepted
zero_ahead W H s M = accepted_by_zero _

-- a forecast answers the number of the tests, and 0 for every figure where it is refused
by_verdict : (v : Verdict) (figures : Figures) → (number_of (answer_by v figures) ≡ number_of v) × (figures_in (answer_by v figures) ≡ when_accepted v figures no_figures)
by_verdict (Ok u) figures = (refl, refl)
by_verdict (Err refusal) figures = (refl, refl)

pub told_ahead : (W H : ℕ) (s : Setting) (M : ℕ)
    → (number_of (forecast_of W H s M) ≡ number_of (judged_ahead W H s M))
    × (figures_in (forecast_of W H s M) ≡ when_accepted (judged_ahead W H s M) (figures_of W H s M) no_figures)
unfolding forecast_of
told_ahead W H s M = by_verdict (judged_ahead W H s M) (figures_of W H s M)
