-- `stream::turn` meets its contract.
use mathlib.Core.Path.{◌≡◌}
use native.Mathlib.Omega.{arith}
use lib.ListN.{length, length-take}
use Rattle.stream.proofs.Cut.{take_min}
use Rattle.stream.proofs.Promise.{read_least, read-room}
use Rattle.stream.proofs.turn.Goals as goal

pub returns : goal.returns
returns c =
    let a = c.args in
    let (same, kept) = c.of-held.ensures in
    let l : length a.carry.now ≡ 8215 = omega arith in
    let r = read_least (take_min a.block.now c.min.result a.n (omega arith)) kept (rw same at c.lines-wrote.ensures) in
    record { reads = r; room = omega (arith, (read-room l r).0, length-take a.n a.block.now) }
