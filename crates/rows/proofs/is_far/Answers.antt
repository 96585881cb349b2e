-- `rows::is_far` compares the size of d with 4,096·n. Assumes nothing.
use Prim.Native.Nat.{◌*◌}
use mathlib.Core.Path.{ap, ◌∙◌}
use lib.Dec.{leb}
use lib.IntN.{nat_abs}
use mir.Facts.{to_z-of_z}
use Rattle.moves.specs.Border.{far}
use Rattle.rows.proofs.is_far.Goals as goal

pub returns : goal.returns
unfolding far
returns c = ap (leb (4096 * c.args.n)) (c.unsigned_abs.ensures.value ∙ ap nat_abs (to_z-of_z c.ranges.d))
