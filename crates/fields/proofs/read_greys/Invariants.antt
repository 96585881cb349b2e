-- `fields::read_greys` meets its contract.
use Rattle.lists.proofs.Tab.{Filled}
use Rattle.format.specs.Line.{sample_at}
use Rattle.fields.proofs.read_greys.Given as goal

abbrev pub invariant-loop-k : goal.invariant-loop-k
invariant-loop-k l = Filled (sample_at l.line) l.initial.picture l.k l.picture
