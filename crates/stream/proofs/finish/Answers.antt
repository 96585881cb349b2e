-- `stream::finish` meets its contract.
use Rattle.stream.proofs.Cut.{stands_take}
use mathlib.Core.Path.{◌∙◌}
use Rattle.stream.proofs.Promise.{finished_here, finished_held}
use Rattle.stream.proofs.finish.Goals as goal

pub returns-then-held-eq0 : goal.returns-then-held-eq0
returns-then-held-eq0 c =
    let a = c.args in
    finished_here a.s.now a.held.now.bytes a.out.now _ a.held.now.used _ c.if-held-eq0.true c.requires c.answer.ensures

pub returns : goal.returns
returns c =
    finished_held c.args.s.now _ _ c.args.out.now _ _ (c.held.ensures ∙ stands_take c.hold.ensures) c.requires c.answer-2.ensures
