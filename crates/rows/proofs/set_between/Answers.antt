-- `rows::set_between` frames the row, and reads the line into its middle. Assumes nothing.
use Prim.Native.Nat.{◌*◌, ◌-◌}
use mathlib.Core.Path.{◌≡◌, ◌∙◌}
use native.Mathlib.Omega.{arith}
use borrow.Rule.Slice.PartMut.{mid_len}
use mir.Facts.{to_z-of_z}
use Rattle.lists.specs.Grid.{line_of}
use Rattle.lists.proofs.Grid.{line_of-length}
use Rattle.moves.proofs.Border.{set-framed}
use Rattle.rows.proofs.set_between.Goals as goal

pub returns : goal.returns
returns c =
    let a = c.args in
    let v = c.frame in
    let own = line_of a.at a.along a.n a.picture.now in
    let m : 2 * a.n - a.n ≡ a.n = omega arith in
    let long = mid_len a.n (2 * a.n) v.new.row (omega (arith, v.auto.row, c.requires.row_len)) in
    let loaded = rw (long, m) at c.load_line.ensures in
    let f = rw (to_z-of_z c.ranges.b) at v.ensures in
    rw loaded
    (set-framed a.b a.part a.n own v.new.row (line_of-length a.at a.along a.n a.picture.now) (v.auto.row ∙ c.requires.row_len.0) c.requires.row_len.4 f)
