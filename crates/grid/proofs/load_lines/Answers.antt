-- `load_lines` replaces row after row of work by a line of the picture, set in as its border has it. Assumes nothing.
use Prim.Native.Nat.{◌+◌, ◌*◌, ◌≤◌}
use mathlib.Core.Path.{◌∙◌}
use native.Mathlib.Omega.{arith}
use lib.ListN.{length}
use Rattle.lists.specs.Grid.{line_of}
use Rattle.moves.specs.Row.{set_in, Alike}
use Rattle.grid.proofs.Rows.{part_long, rows_more}
use Rattle.grid.proofs.load_lines.Goals as goal

pub loop-i-preserved : goal.loop-i-preserved
loop-i-preserved c =
    let a = c.args in
    let m = c.places_of-m.result in
    let row = c.set_in.new.row in
    let room : 4 * m ≤ length c.loop-i.work = omega (arith, c.loop-i.auto.work, c.places_of-m.ensures, c.requires.le_n.2) in
    rows_more m c.loop-i.work row c.loop-i.i (omega arith) room (c.set_in.auto.row ∙ part_long m c.loop-i.work c.loop-i.i (omega arith) room)
    (λ j t. Alike a.part t (set_in a.border (line_of (a.at + j * a.s.across) 1 a.s.n a.picture.now))) c.loop-i.invariant c.set_in.ensures
