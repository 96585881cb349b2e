-- `rows::prepare` meets its contract. Assumes nothing.
use mathlib.Core.Path.{◌≡◌, refl, ◌∙◌}
use mathlib.Core.List.{List}
use mathlib.Core.Logic.{◌⊎◌, inl, inr}
use native.Mathlib.Omega.{arith}
use lib.IntN.{ℤ}
use Rattle.kernels.specs.declared.Kernel.{Kernel}
use Rattle.kernels.specs.declared.Kernel.TheVariants.{Linear, Keys}
use Rattle.moves.specs.InPlace.{prepared}
use Rattle.moves.proofs.InPlace.{prepared_samples, prepared-coefficients}
use Rattle.rows.proofs.prepare.Goals as goal

samples : (κ : Kernel) (s : List ℤ) → (κ ≡ Linear) ⊎ (κ ≡ Keys) → s ≡ prepared κ s
samples κ s (inl e) = rw e (prepared_samples 0 s (omega arith))
samples κ s (inr e) = rw e (prepared_samples 1 s (omega arith))

pub returns-in-Linear : goal.returns-in-Linear
returns-in-Linear c = samples c.args.kernel c.args.line.now c.in-Linear.is

pub returns-in-Spline : goal.returns-in-Spline
returns-in-Spline c = c.coefficients.ensures ∙ prepared-coefficients c.args.line.now ∙ rw c.in-Spline.is refl
