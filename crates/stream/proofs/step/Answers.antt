-- `stream::step` meets its contract.
use mathlib.Core.Path.{sym}
use native.Mathlib.Omega.{arith}
use lib.Seq.{length-take-le}
use Rattle.feeds.proofs.Length.{length_within}
use Rattle.stream.proofs.Promise.{step-held, step_answered}
use Rattle.stream.proofs.step.Goals as goal

pub returns-then-n-s : goal.returns-then-n-s
returns-then-n-s c =
    let n = c.line_length-n in
    let a = c.args in
    step-held a.s.now a.held.now.bytes _ a.out.now a.held.now.used n.result _ n.ensures (omega arith) c.hold.ensures

pub slice_bounds-finish-end : goal.slice_bounds-finish-end
slice_bounds-finish-end c = let s = c.args.s.now in sym (length-take-le c.line_length-n.result s (omega (arith, length_within s)))

pub overflow_add-result : goal.overflow_add-result
overflow_add-result c = omega (arith, length_within c.args.s.now)

pub returns : goal.returns
returns c =
    let n = c.line_length-n in
    let a = c.args in
    step_answered a.s.now a.held.now.bytes a.out.now _ a.held.now.used n.result _ n.ensures (omega (arith, length_within a.s.now)) c.finish-wrote.ensures
