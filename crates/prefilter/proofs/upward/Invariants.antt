-- `upward`: x is u(k - 1), and the first k places have u (`Rising`). Assumes nothing.
use Rattle.prefilter.proofs.InPlace.{Rising}
use Rattle.prefilter.proofs.upward.Given as goal

abbrev pub invariant-loop-place : goal.invariant-loop-place
invariant-loop-place l = Rising l.initial.s l.place-index l.x l.s
