-- `weighing::divided` meets its contract. Linear's and Keys' quotients are shifts; the spline's is a shift and then a quotient by 3, a
-- floor of a floor.
-- Assumes nothing.
use mathlib.Core.Path.{◌≡◌, ◌∙◌}
use Prim.Native.Nat.{◌≤◌}
use native.Mathlib.Omega.{arith}
use lib.Dec.{lit<}
use lib.IntN.{ℤ, pos, nat_abs, ◌+ℤ◌, ◌-ℤ◌}
use lib.Signed.{shr_z, quot_z}
use mir.Syntax.{w32, w64}
use mir.Val.{SFits}
use Rattle.arith.specs.Whole.{round}
use Rattle.arith.proofs.Bridge.{all1}
use Rattle.arith.proofs.Divide.{division}
use Rattle.arith.proofs.Round.{shr-round}
use Rattle.arith.proofs.Compute.{Code, arg, num, cast, ◌+ᵐ◌, ◌-ᵐ◌, ◌/ᵐ◌, ◌>>ᵐ◌, Ranges, value}
use Rattle.weighing.proofs.divided.Goals as goal

abbrev linear : ℤ → Code w32
linear p = cast w64 (arg p +ᵐ num 34359738368 >>ᵐ 36)

abbrev keys : ℤ → Code w32
keys p = cast w64 (arg p +ᵐ num 68719476736 >>ᵐ 37)

abbrev spline : ℤ → Code w32
spline p = (cast w64 (arg p +ᵐ num 3298534883328 >>ᵐ 41) +ᵐ num 3145728) /ᵐ num 3 -ᵐ num 1048576

linear_ranges : (p : ℤ) → SFits w64 p → nat_abs p ≤ 5836666354022744064 → Ranges (linear p)
linear_ranges = all1 _ (simp division (omega arith))

keys_ranges : (p : ℤ) → SFits w64 p → nat_abs p ≤ 5836666354022744064 → Ranges (keys p)
keys_ranges = all1 _ (simp division (omega arith))

spline_ranges : (p : ℤ) → SFits w64 p → nat_abs p ≤ 5836666354022744064 → Ranges (spline p)
spline_ranges = all1 _ (simp division (omega arith))

spline_value : (p : ℤ) → nat_abs p ≤ 5836666354022744064
    → quot_z (shr_z (p +ℤ pos 3298534883328) 2199023255552 +ℤ pos 3145728) (pos 3) -ℤ pos 1048576 ≡ round p 6597069766656
spline_value = all1 _ (simp division (omega arith))

pub returns-in-Linear : goal.returns-in-Linear
returns-in-Linear c =
    rw c.in-Linear.is
    (value (linear c.args.p) (linear_ranges c.args.p c.ranges.p c.requires) ∙ shr-round c.args.p 68719476736 (lit< tt))

pub returns-in-Keys : goal.returns-in-Keys
returns-in-Keys c =
    rw c.in-Keys.is
    (value (keys c.args.p) (keys_ranges c.args.p c.ranges.p c.requires) ∙ shr-round c.args.p 137438953472 (lit< tt))

pub returns-in-Spline : goal.returns-in-Spline
returns-in-Spline c =
    rw c.in-Spline.is
    (value (spline c.args.p) (spline_ranges c.args.p c.ranges.p c.requires) ∙ spline_value c.args.p c.requires)
