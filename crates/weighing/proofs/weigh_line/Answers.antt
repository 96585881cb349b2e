-- `weighing::weigh_line` leaves a line as it is at f = 0, but for the spline. Assumes nothing.
use mathlib.Core.Path.{◌≡◌, sym, ap, ◌∙◌}
use mathlib.Core.List.{List}
use mathlib.Core.Logic.{◌⊎◌, inl, inr}
use native.Mathlib.Omega.{arith}
use lib.IntN.{ℤ, pos}
use mir.Syntax.{w32}
use mir.Val.{to_z}
use mir.Facts.{to_z-of_z}
use Rattle.kernels.specs.declared.Kernel.{Kernel}
use Rattle.kernels.specs.declared.Kernel.TheVariants.{Linear, Keys}
use Rattle.moves.specs.InPlace.{weighed}
use Rattle.moves.proofs.InPlace.{weighed-whole}
use Rattle.weighing.proofs.weigh_line.Goals as goal

left : (κ : Kernel) (s : List ℤ) → (κ ≡ Linear) ⊎ (κ ≡ Keys) → s ≡ weighed κ (pos 0) s
left κ s (inl e) = rw e (weighed-whole 0 s (omega arith))
left κ s (inr e) = rw e (weighed-whole 1 s (omega arith))

pub returns-in-Linear : goal.returns-in-Linear
returns-in-Linear c = rw (sym (to_z-of_z c.ranges.f) ∙ ap (to_z w32) c.if-f-eq0.true) (left c.args.kernel c.args.line.now c.in-Linear.is)
