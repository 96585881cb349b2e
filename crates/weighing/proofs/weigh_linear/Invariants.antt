-- `weighing::weigh_linear` has weighed the places below j, and the later ones are as they were. Assumes nothing.
use Rattle.lists.proofs.Tab.{Filled}
use Rattle.kernels.specs.declared.Kernel.TheVariants.{Linear}
use Rattle.moves.specs.InPlace.{weighed_at}
use Rattle.weighing.proofs.weigh_linear.Given as goal

abbrev pub invariant-loop-j : goal.invariant-loop-j
invariant-loop-j l = Filled (weighed_at Linear l.f l.initial.line) l.initial.line l.j l.line
