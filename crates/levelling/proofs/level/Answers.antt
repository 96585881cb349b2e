-- `levelling::level` meets its contract: it is `level_within` of the largest side. Assumes nothing.
use mir.Facts.{to_z-of_z}
use Rattle.levelling.proofs.level.Goals as goal

pub returns : goal.returns
returns c =
    let f = c.ranges in
    rw (to_z-of_z f.x1, to_z-of_z f.y1, to_z-of_z f.x2, to_z-of_z f.y2) at c.level_within.ensures
