-- `scale` is [6·P·x/2³⁰]. Assumes nothing.
use mathlib.Core.Path.{◌∙◌}
use Prim.Native.Nat.{◌≤◌}
use native.Mathlib.Omega.{arith}
use lib.Dec.{lit<}
use lib.IntN.{ℤ, pos, nat_abs, ◌*ℤ◌}
use mir.Syntax.{w32, w64}
use mir.Val.{SFits}
use Rattle.arith.proofs.Bridge.{all1}
use Rattle.arith.proofs.Divide.{division}
use Rattle.arith.proofs.Round.{shr-round}
use Rattle.arith.proofs.Compute.{Code, arg, num, cast, ◌+ᵐ◌, ◌*ᵐ◌, ◌>>ᵐ◌, Ranges, value}
use Rattle.spline.specs.Coefficients.{T, scaled}
use Rattle.prefilter.proofs.scale.Goals as goal
use Rattle.prefilter.proofs.scale.Goals.{Start}

abbrev code : ℤ → Code w32
code x = cast w64 (num 1726249530 *ᵐ arg x +ᵐ num 536870912 >>ᵐ 30)

in_range : (x : ℤ) → SFits w64 x → nat_abs x ≤ 9142272 → Ranges (code x)
in_range = all1 _ (simp division (omega arith))

ranges : (c : Start) → Ranges (code c.args.x)
ranges c = in_range c.args.x c.ranges.x c.requires

pub returns : goal.returns
unfolding scaled
returns c = value (code c.args.x) (ranges c) ∙ shr-round (pos 1726249530 *ℤ c.args.x) T (lit< tt)
