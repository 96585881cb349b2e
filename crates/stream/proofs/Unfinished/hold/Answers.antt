-- `stream::Unfinished::hold` meets its contract.
use native.Mathlib.Omega.{arith}
use Rattle.stream.proofs.Cut.{held_stands}
use Rattle.stream.proofs.Unfinished.hold.Goals as goal

pub returns : goal.returns
returns c =
    let a = c.args in
    rw c.copy_from_slice.ensures.after (held_stands a.self.now.bytes a.s.now a.self.now.used c.min-n.result (omega arith) (omega arith) (omega arith))
