-- A forecast: from width, height, setting and the largest sample size M, how many work places a straightening needs, how many lines it interpolates, and a
-- bound on the size of any sample of its result. Assumes nothing.
use Rattle.std.specs.Prelude.{ℕ, ◌+◌, ◌*◌, ◌/◌, max, ltb, pos, nat_abs, Result, Ok, Err}
use Rattle.refusals.specs.declared.Refusal.{Refusal}
use Rattle.refusals.specs.declared.Refusal.TheVariants.{BadSize, TooLarge}
use Rattle.refusals.specs.Tests.{bad_size}
use Rattle.refusals.specs.Judging.{Verdict, accepted, refused_if, and_then, answer_by}
use Rattle.settings.specs.declared.Border.{Border}
use Rattle.settings.specs.declared.Setting.{Setting}
use Rattle.kernels.specs.declared.Kernel.{Kernel}
use Rattle.kernels.specs.declared.Kernel.TheVariants.{Linear, Keys, Spline}
use Rattle.moves.specs.Border.{grey}
use Rattle.passes.specs.Count.{count}
use Rattle.acceptance.specs.Judge.{range, judged_setting}
use Rattle.pictures.specs.Answer.{kernel_in, row_moves, column_moves}
use Rattle.forecasts.specs.declared.Figures.{Figures}

-- what a forecast is refused under: 1, then those of the setting, then 6 of an M over 32,767, which names no place. No buffer is lent, so there
-- is no 2
unfoldable pub judged_ahead : ℕ → ℕ → Setting → ℕ → Verdict
judged_ahead W H s M = refused_if (bad_size W H) BadSize (and_then (judged_setting W H s) (refused_if (ltb range M) TooLarge accepted))

-- where the background's size is larger than M, it takes M's place
abbrev pub largest_in : Border → ℕ → ℕ
largest_in β M = max M (nat_abs (grey β))

-- (5M + 2)/4 rounded down
abbrev pub onward : ℕ → ℕ
onward M = (5 * M + 2) / 4

-- a bound on the size of any sample of the result
abbrev pub bound_of : Kernel → ℕ → ℕ
bound_of Linear M = M
bound_of Keys M = onward (onward (onward M))
bound_of Spline M = 27 * M

abbrev pub figures_of : ℕ → ℕ → Setting → ℕ → Figures
figures_of W H s M =
    record {
      work = 12 * max W H;
      count = count s.border W H (row_moves s) (column_moves s);
      bound = pos (bound_of (kernel_in s) (largest_in s.border M));
    }

abbrev pub no_figures : Figures
no_figures = record { work = 0; count = 0; bound = pos 0 }

-- what a forecast comes to, and the figures that it tells: 0, every one, where it is refused
abbrev pub Foretold : Type 0
Foretold = Result Figures Refusal

abbrev pub figures_in : Foretold → Figures
figures_in (Ok figures) = figures
figures_in (Err refusal) = no_figures

-- the full answer of a forecast
unfoldable pub forecast_of : ℕ → ℕ → Setting → ℕ → Foretold
forecast_of W H s M = answer_by (judged_ahead W H s M) (figures_of W H s M)
