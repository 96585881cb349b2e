-- `downward`: x is the value of the run at k, and the places from k on have coefficients (`Falling`). Assumes nothing.
use Rattle.prefilter.proofs.InPlace.{Falling}
use Rattle.prefilter.proofs.downward.Given as goal

abbrev pub invariant-loop-k : goal.invariant-loop-k
invariant-loop-k l = Falling l.initial.u l.k l.x l.u
