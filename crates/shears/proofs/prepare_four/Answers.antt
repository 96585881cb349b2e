-- `prepare_four` computes the coefficients for the spline, and nothing for linear and Keys. Assumes nothing.
use Prim.Native.Nat.{ℕ, ◌<◌}
use mathlib.Core.Path.{◌≡◌, refl, ◌∙◌}
use mathlib.Core.List.{List}
use mathlib.Core.Logic.{◌⊎◌, inl, inr}
use native.Mathlib.Omega.{arith}
use lib.IntN.{ℤ}
use Rattle.lists.specs.Grid.{row_of}
use Rattle.kernels.specs.declared.Kernel.{Kernel}
use Rattle.kernels.specs.declared.Kernel.TheVariants.{Linear, Keys}
use Rattle.moves.specs.InPlace.{prepared}
use Rattle.moves.proofs.InPlace.{prepared_samples, prepared-coefficients}
use Rattle.shears.proofs.prepare_four.Goals as goal

samples : (κ : Kernel) (s : List ℤ) → (κ ≡ Linear) ⊎ (κ ≡ Keys) → s ≡ prepared κ s
samples κ s (inl e) = rw e (prepared_samples 0 s (omega arith))
samples κ s (inr e) = rw e (prepared_samples 1 s (omega arith))

pub returns-in-Linear : goal.returns-in-Linear
returns-in-Linear c = λ (i : ℕ) (l : i < 4). samples c.args.kernel (row_of c.args.n c.args.work.now i) c.in-Linear.is

pub returns-in-Spline : goal.returns-in-Spline
returns-in-Spline c = λ (i : ℕ) (l : i < 4).
    c.coefficients_four.ensures.by_index_2 i l ∙ prepared-coefficients (row_of c.args.n c.args.work.now i) ∙ rw c.in-Spline.is refl
