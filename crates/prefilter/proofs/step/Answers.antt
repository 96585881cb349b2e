-- `step` is the input less [P·x/2³⁰]. Assumes nothing.
use mathlib.Core.Path.{ap, ◌∙◌}
use native.Mathlib.Omega.{arith}
use lib.Dec.{lit<}
use lib.IntN.{ℤ, pos, ◌-ℤ◌, ◌*ℤ◌}
use mir.Syntax.{w64}
use mir.Val.{SFits}
use Rattle.std.proofs.lemmas.Int.{ints, to_z-of_z}
use Rattle.arith.proofs.Bridge.{all2}
use Rattle.arith.proofs.Divide.{division}
use Rattle.arith.proofs.Round.{shr-round}
use Rattle.arith.proofs.Within.{Within, size_within}
use Rattle.arith.proofs.Compute.{Code, arg, num, ◌+ᵐ◌, ◌-ᵐ◌, ◌*ᵐ◌, ◌>>ᵐ◌, Ranges, value}
use Rattle.spline.specs.Coefficients.{P, T}
use Rattle.prefilter.proofs.step.Goals as goal
use Rattle.prefilter.proofs.step.Goals.{Start}

abbrev code : ℤ → ℤ → Code w64
code s x = arg s -ᵐ (num 287708255 *ᵐ arg x +ᵐ num 536870912 >>ᵐ 30)

in_range : (s x : ℤ) → SFits w64 s → SFits w64 x → Within (pos 6488065) s → Within (pos 9142272) x → Ranges (code s x)
in_range = all2 _ (simp division (λ a b c d fs fx hs hx. omega arith))

ranges : (c : Start) → Ranges (code c.args.s c.args.x)
ranges c =
    in_range c.args.s c.args.x c.ranges.s c.ranges.x (size_within c.args.s 6488065 c.requires.0)
    (size_within c.args.x 9142272 c.requires.1)

pub returns : goal.returns
returns c =
    value (code c.args.s c.args.x) (ranges c)
    ∙ ap (λ t. c.args.s -ℤ t) (shr-round (pos P *ℤ c.args.x) T (lit< tt))

pub overflow_sub-result : goal.overflow_sub-result
overflow_sub-result c = grind (arith, ints, to_z-of_z)
