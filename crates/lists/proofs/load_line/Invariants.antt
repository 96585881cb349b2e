-- The first k places are filled from the line. Assumes nothing.
use Rattle.lists.specs.Grid.{placed}
use Rattle.lists.proofs.Tab.{Filled}
use Rattle.lists.proofs.load_line.Given as goal

abbrev pub invariant-loop-k : goal.invariant-loop-k
invariant-loop-k l = Filled (placed l.at l.along l.picture) l.initial.samples l.k l.samples
