-- `stream::lines` meets its contract. The loop has read what stands before `rest`; it holds bytes of a line only once it has read all.
use lib.ListN.{length}
use Rattle.stream.proofs.Promise.{Going}
use Rattle.stream.proofs.lines.Given as goal

abbrev pub invariant-loop-rest : goal.invariant-loop-rest
invariant-loop-rest l = Going l.s l.rest l.initial.held.bytes l.held.bytes l.initial.held.used l.held.used l.initial.out l.out l.wrote

abbrev pub decreases-loop-rest : goal.decreases-loop-rest
decreases-loop-rest l = length l.rest
