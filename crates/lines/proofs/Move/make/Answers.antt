-- `lines::Move::make` clears what the row took, and all that it may take. Assumes nothing.
use mathlib.Core.Path.{◌≡◌, ◌∙◌}
use Prim.Native.Nat.{◌*◌, ◌≤◌}
use native.Mathlib.Omega.{arith}
use lib.ListN.{length, take}
use lib.Seq.{length-take-le}
use Rattle.moves.proofs.Border.{places_few}
use Rattle.lines.proofs.Answer.{cleared_room}
use Rattle.lines.proofs.Move.make.Goals as goal

pub returns-clause-work_after : goal.returns-clause-work_after
returns-clause-work_after c =
    let a = c.args in
    let v = c.make_in-interpolated in
    let m = c.places_of-m.result in
    let few : m ≤ 3 * a.self.n = omega (arith, c.places_of-m.ensures, places_few a.self.border a.self.n) in
    let lent : length (take m a.work.now) ≡ m = length-take-le m a.work.now (omega (arith, c.requires.work_room)) in
    cleared_room m (6 * a.self.n) v.new.row a.work.now c.clear.new.places (v.auto.row ∙ lent) (omega (arith, few)) c.requires.work_room c.clear.ensures
