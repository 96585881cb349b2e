-- `floor_remainder` is the library's remainder that is not negative. Assumes nothing.
use mathlib.Core.Path.{◌∙◌}
use native.Mathlib.Omega.{arith}
use lib.IntN.{ℤ, pos}
use lib.Signed.{◌≤ℤ◌, ◌<ℤ◌}
use mir.Syntax.{w64}
use mir.Facts.{to_z-of_z}
use Rattle.arith.proofs.Bridge.{bridge, all1}
use Rattle.arith.proofs.Round.{euclid-remainder}
use Rattle.arith.proofs.Machine.{read_back}
use Rattle.arith.proofs.floor_remainder.Goals as goal

some : (m : ℤ) → pos 1 ≤ℤ m → pos 0 <ℤ m
some = all1 _ (simp bridge (omega arith))

pub returns : goal.returns
returns c =
    read_back w64 c.rem_euclid.result c.rem_euclid.type_inv
    ∙ (rw (to_z-of_z c.ranges.z, to_z-of_z c.ranges.m) at c.rem_euclid.ensures.value)
    ∙ euclid-remainder c.args.z c.args.m (some c.args.m c.requires)
