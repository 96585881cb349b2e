-- `rows::weigh_part` weighs a part as a line of its own. Assumes nothing.
use Prim.Native.Nat.{◌-◌}
use mathlib.Core.Path.{ap}
use borrow.Rule.Slice.PartMut.{put_mid}
use mir.Facts.{to_z-of_z}
use Rattle.moves.specs.Row.{weighed_part}
use Rattle.rows.proofs.weigh_part.Goals as goal

pub returns : goal.returns
unfolding weighed_part
returns c =
    let a = c.args in
    ap (put_mid a.part.lo (a.part.hi - a.part.lo) a.row.now) (rw (to_z-of_z c.ranges.f) at c.weigh_line.ensures)
