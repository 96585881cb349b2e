-- A grey as a byte is (v + 64)/128 rounded down, held to 0 to 255. Assumes nothing.
use Prim.Native.Nat.{◌≤◌}
use mathlib.Core.Path.{◌≡◌, ap, ◌∙◌}
use native.Mathlib.Omega.{arith}
use lib.IntN.{ℤ, pos, nat_abs, ◌+ℤ◌}
use mir.Syntax.{w32}
use mir.Val.{SFits, to_z}
use Rattle.arith.specs.Whole.{floor, min_ℤ, max_ℤ}
use Rattle.arith.proofs.Bridge.{bridge, all1}
use Rattle.arith.proofs.Compute.{Code, arg, num, shr, ◌+ᵐ◌, run, value}
use Rattle.arith.proofs.Machine.{read_back}
use Rattle.arith.proofs.Round.{shr-floor}
use Rattle.lists.proofs.Ends.{least, most}
use Rattle.readings.specs.Sample.{half_grey, grey_of}
use Rattle.readings.specs.Answers.{range}
use Rattle.readings.proofs.U8Form.of_sample.Goals as goal

-- (v + 64) >> 7
abbrev quotient : ℤ → Code w32
quotient v = shr (arg v +ᵐ num half_grey) 7

sum_fits : (v : ℤ) → nat_abs v ≤ range → SFits w32 (v +ℤ pos half_grey)
sum_fits = all1 _ (simp bridge (omega arith))

-- what the code holds to 0 to 255
held_is : (v : ℤ) → SFits w32 v → nat_abs v ≤ range → to_z w32 (run (quotient v)) ≡ floor (v +ℤ pos half_grey) 128
held_is v f h = value (quotient v) (f, (tt, (sum_fits v h, tt))) ∙ shr-floor (v +ℤ pos half_grey) 128

turned : (g : ℤ) → nat_abs (max_ℤ (pos 0) (min_ℤ g (pos 255))) ≡ nat_abs (max_ℤ (pos 0) (min_ℤ (pos 255) g))
turned = all1 _ (simp bridge (omega arith))

pub returns : goal.returns
unfolding grey_of
returns c =
    let g = floor (c.args.v +ℤ pos half_grey) 128 in
    let held = rw (held_is c.args.v c.ranges.v c.requires, least, most) at c.clamp.ensures.value in
    ap nat_abs (read_back w32 _ c.clamp.type_inv ∙ held) ∙ turned g
