-- `move_line` sets a line into its row, treats it and puts it back: a moved line. Assumes nothing.
use Prim.Native.Nat.{◌*◌}
use mathlib.Core.Path.{◌≡◌, ◌∙◌}
use native.Mathlib.Omega.{arith}
use lib.ListN.{length}
use mir.Syntax.{w32}
use Rattle.arith.proofs.Machine.{read_back}
use Rattle.arith.proofs.Move.{fraction_low, fraction_below}
use Rattle.moves.specs.Row.{places}
use Rattle.moves.proofs.Border.{places_few}
use Rattle.offsets.specs.Moves.{move_of}
use Rattle.shears.proofs.Moved.{loads, row_within, put-moved}
use Rattle.shears.proofs.move_line.Goals as goal

pub treat-requires : goal.treat-requires
treat-requires c =
    let a = c.args in
    let h = a.shear in
    let w = c.window_of-window.ensures in
    let long : length c.set_in.new.row ≡ places h.border a.s.n = c.set_in.auto.row ∙ c.requires.le_n.2 in
    let set = rw (loads h.kernel c.window_of-window.result c.loaded_of-loaded.ensures c.requires.le_n.2) at c.set_in.ensures in
    rw (long, read_back w32 _ c.fraction-f.type_inv, c.fraction-f.ensures) record {
      row_len_bound = (
        omega (arith, places_few h.border a.s.n, c.requires.le_n.1),
        omega (arith, w.low, w.high, c.requires.le_n.0),
        w.end,
        (fraction_low _, fraction_below _),
      );
      part_within = row_within h.border c.requires.le_n.5 h.kernel (a.y * a.s.across) a.s.along a.s.n a.picture.now c.set_in.new.row c.requires.by_index_2 w set;
    }

pub returns : goal.returns
returns c =
    let a = c.args in
    let h = a.shear in
    let long : length c.set_in.new.row ≡ places h.border a.s.n = c.set_in.auto.row ∙ c.requires.le_n.2 in
    let set = rw (loads h.kernel c.window_of-window.result c.loaded_of-loaded.ensures c.requires.le_n.2) at c.set_in.ensures in
    c.store_line.ensures
    ∙ put-moved h.border c.requires.le_n.5 h.kernel (move_of h.moves) a.y (a.y * a.s.across) a.s.along a.s.n c.start-start.result c.window_of-window.result a.picture.now c.set_in.new.row c.treat.new.row
    c.start-start.ensures.0 c.requires.by_index_2 long c.window_of-window.ensures set
    (rw (read_back w32 _ c.fraction-f.type_inv, c.fraction-f.ensures) at c.treat.ensures)
