-- `stream::last` meets its contract.
use Prim.Native.Nat.{◌<◌}
use mathlib.Core.Path.{◌≡◌}
use native.Mathlib.Omega.{arith}
use lib.ListN.{length, take, length-take}
use Rattle.stream.proofs.Promise.{last_none, last-held}
use Rattle.stream.proofs.last.Goals as goal

pub returns-then-used-eq0 : goal.returns-then-used-eq0
returns-then-used-eq0 c = let a = c.args in last_none a.carry.now a.out.now a.used c.if-used-eq0.true

pub returns : goal.returns
returns c =
    let a = c.args in
    let (same, kept) = c.of.ensures in
    let l : length a.carry.now ≡ 8215 = omega arith in
    let some : 0 < length (take a.used a.carry.now) = simp length-take (omega arith) in
    last-held a.carry.now a.out.now _ a.used _ l some (rw (same, kept) at c.finish.ensures)
