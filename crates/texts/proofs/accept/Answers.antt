-- `texts::accept` meets its contract.
use native.Mathlib.Omega.{arith}
use Rattle.format.proofs.Front.{too_long}
use Rattle.format.proofs.Text.{length-accepted, accepted_written}
use Rattle.texts.proofs.accept.Goals as goal

pub returns-then-out-end : goal.returns-then-out-end
returns-then-out-end c =
    let a = c.args in
    too_long _ a.out.now _ (length-accepted a.count a.w a.h a.samples.now) (omega arith)

pub returns : goal.returns
returns c =
    let a = c.args in
    accepted_written a.count a.w a.h a.samples.now a.out.now _ _ _ _ _ (omega arith) (rw c.from.ensures at c.put_head.ensures) c.put_at.ensures c.put_samples.ensures c.close.ensures
