-- The first k places hold the forms of their samples. Assumes nothing.
use Rattle.lists.specs.Line.{line}
use Rattle.lists.proofs.Tab.{Filled}
use Rattle.readings.proofs.fill.Given as goal

abbrev pub invariant-loop-k : goal.invariant-loop-k
invariant-loop-k g l = Filled (λ k. g.T.Form.form_of (line l.picture k)) l.initial.places l.k l.places
