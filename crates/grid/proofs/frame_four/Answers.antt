-- `frame_four` frames row after row. Assumes nothing.
use Prim.Native.Nat.{◌*◌, ◌≤◌}
use mathlib.Core.Path.{◌∙◌}
use native.Mathlib.Omega.{arith}
use lib.ListN.{length}
use mir.Syntax.{w32}
use mir.Val.{to_z, of_z}
use Rattle.moves.specs.Row.{Framed}
use Rattle.grid.proofs.Rows.{part_long, rows_more}
use Rattle.grid.proofs.frame_four.Goals as goal

pub loop-i-preserved : goal.loop-i-preserved
loop-i-preserved c =
    let m = 3 * c.args.n in
    let row = c.frame.new.row in
    let room : 4 * m ≤ length c.loop-i.work = omega (arith, c.loop-i.auto.work, c.requires.1) in
    rows_more m c.loop-i.work row c.loop-i.i (omega arith) room (c.frame.auto.row ∙ part_long m c.loop-i.work c.loop-i.i (omega arith) room)
    (λ j t. Framed c.args.n (to_z w32 (of_z w32 c.args.b)) c.args.part t) c.loop-i.invariant c.frame.ensures
