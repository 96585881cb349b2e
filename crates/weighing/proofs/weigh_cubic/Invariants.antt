-- `weighing::weigh_cubic` has weighed the places below j, the later ones are as they were, and a, b, c are the first three of the four places
-- that place j is weighed from. Assumes nothing.
use Rattle.lists.proofs.Tab.{Filled}
use Rattle.moves.specs.InPlace.{weighed_at}
use Rattle.moves.proofs.Window.{Window}
use Rattle.weighing.proofs.weigh_cubic.Given as goal

abbrev pub invariant-loop-j : goal.invariant-loop-j
invariant-loop-j l = Filled (weighed_at l.kernel l.f l.initial.line) l.initial.line l.j l.line × Window l.initial.line l.j l.a l.b l.c
