-- Bounds, and the figures of small pictures, worked out by the checker. Assumes nothing.
use Prim.Native.Nat.{ℕ}
use mathlib.Core.Path.{◌≡◌, refl}
use mathlib.Core.List.{[], ◌∷◌, map}
use lib.IntN.{ℤ, pos, negsuc}
use Rattle.arith.specs.Whole.{floor, remainder}
use Rattle.arith.specs.Move.{fraction}
use Rattle.std.specs.Prelude.{Ok, Err}
use Rattle.refusals.specs.declared.Refusal.TheVariants.{TooLarge}
use Rattle.refusals.specs.Tests.{bad_side, bad_size, bad_kernel, beyond_of}
use Rattle.settings.specs.declared.Border.{Border}
use Rattle.settings.specs.declared.Border.TheVariants.{Wrapped, Background}
use Rattle.settings.specs.declared.Setting.{Setting}
use Rattle.settings.specs.Setting.{with_kernel, with_shears}
use Rattle.kernels.specs.declared.Kernel.TheVariants.{Linear, Keys, Spline}
use Rattle.moves.specs.Border.{far, gone, fraction_in, bad_background}
use Rattle.passes.specs.Count.{interpolated, count}
use Rattle.acceptance.specs.Judge.{bad_centre, bad_shears}
use Rattle.forecasts.specs.Figures.{Foretold, figures_in, judged_ahead, largest_in, bound_of, forecast_of}

abbrev still : Setting
still = record { kernel = 0; cx = 0; cy = 0; a = pos 0; b = pos 0; border = Wrapped }

-- ---- the bounds of samples up to 0, 1, 100 and 32,767
bounds :
    map (bound_of Linear) (0 ∷ 1 ∷ 100 ∷ 32767 ∷ [])
    ∷ map (bound_of Keys) (0 ∷ 1 ∷ 100 ∷ 32767 ∷ [])
    ∷ map (bound_of Spline) (0 ∷ 1 ∷ 100 ∷ 32767 ∷ [])
    ∷ []
    ≡ (0 ∷ 1 ∷ 100 ∷ 32767 ∷ []) ∷ (0 ∷ 1 ∷ 195 ∷ 63999 ∷ []) ∷ (0 ∷ 27 ∷ 2700 ∷ 884709 ∷ []) ∷ []
bounds = refl

-- a background counts by its size, where that is larger
backgrounds :
    map (λ (β : Border). largest_in β 100) (Wrapped ∷ Background (pos 99) ∷ Background (negsuc 100) ∷ Background (pos 32767) ∷ []) ≡ 100 ∷ 100 ∷ 101 ∷ 32767 ∷ []
backgrounds = refl

-- ---- figures
abbrev told : ℕ → ℕ → ℤ → Foretold
told work count bound = Ok (record { work = work; count = count; bound = bound })

-- a picture of 2 by 5, its rows moved by 2,049·y: four of them are interpolated in each pass over rows, of which the last moves by more than its two samples,
-- so that on a background it is not
abbrev rows_only : Border → Setting
rows_only β = record { kernel = 1; cx = 0; cy = 0; a = pos 2049; b = pos 0; border = β }

wrapped-rows : forecast_of 2 5 (rows_only Wrapped) 100 ≡ told 60 8 (pos 195)
unfolding forecast_of judged_ahead bad_size bad_side bad_centre bad_shears bad_kernel bad_background beyond_of count interpolated fraction_in gone far fraction remainder floor
wrapped-rows = refl

background_rows : forecast_of 2 5 (rows_only (Background (negsuc 199))) 100 ≡ told 60 6 (pos 391)
unfolding forecast_of judged_ahead bad_size bad_side bad_centre bad_shears bad_kernel bad_background beyond_of count interpolated fraction_in gone far fraction remainder floor
background_rows = refl

-- rows count twice and columns once: of 3 by 2 one row and two columns move
rows_and_columns : forecast_of 3 2 (with_kernel (with_shears still (pos 1) (pos 1)) 2) 1 ≡ told 36 4 (pos 27)
unfolding forecast_of judged_ahead bad_size bad_side bad_centre bad_shears bad_kernel bad_background beyond_of count interpolated fraction_in gone far fraction remainder floor
rows_and_columns = refl

-- a refusal gives 0 for every figure
refused : (forecast_of 3 2 still 32768 ≡ Err TooLarge) × (figures_in (forecast_of 3 2 still 32768) ≡ record { work = 0; count = 0; bound = pos 0 })
unfolding forecast_of judged_ahead bad_size bad_side bad_centre bad_shears bad_kernel bad_background beyond_of
refused = (refl, refl)
