-- `gather_between` frames the rows and lays the lines into their middle. Assumes nothing.
use Prim.Native.Nat.{ℕ, ◌<◌}
use native.Mathlib.Omega.{arith}
use mir.Facts.{to_z-of_z}
use Rattle.grid.proofs.Rows.{gathered_between}
use Rattle.grid.proofs.gather_between.Goals as goal

pub returns : goal.returns
returns c =
    let a = c.args in
    let w = c.frame_four in
    λ (i : ℕ) (l : i < 4).
    rw c.gather.ensures
    (gathered_between a.at a.s.along a.s.across a.s.n a.picture.now a.b a.part w.new.work (omega (arith, w.auto.work, c.requires.le_n.2)) c.requires.le_n.3.2 i l
    (rw (to_z-of_z c.ranges.b) at (w.ensures i l)))
