-- `explanations::parts_cleared` lends the part of the work that the line is prepared in, and clears the work. Assumes nothing.
use mathlib.Core.Path.{◌≡◌, ◌∙◌}
use Prim.Native.Nat.{◌*◌}
use native.Mathlib.Omega.{arith}
use lib.ListN.{length, take}
use lib.Seq.{length-take-le}
use Rattle.lines.proofs.Answer.{cleared_room}
use Rattle.explanations.proofs.parts_cleared.Goals as goal

pub returns-clause-work_after : goal.returns-clause-work_after
returns-clause-work_after c =
    let a = c.args in
    let v = c.parts_in-parts in
    let lent : length (take a.n a.work.now) ≡ a.n = length-take-le a.n a.work.now (omega (arith, c.requires.passed.work_room)) in
    cleared_room a.n (6 * a.n) v.new.row a.work.now c.clear.new.places (v.auto.row ∙ lent) (omega arith) c.requires.passed.work_room c.clear.ensures
