-- `downward_four`: each line keeps what `downward` keeps of one. Assumes nothing.
use Rattle.prefilter.proofs.InPlace.{Falling}
use Rattle.prefilter.proofs.downward_four.Given as goal

abbrev pub invariant-loop-k : goal.invariant-loop-k
invariant-loop-k l = record {
  a : Falling l.initial.a l.k l.x l.a;
  b : Falling l.initial.b l.k l.y l.b;
  c : Falling l.initial.c l.k l.z l.c;
  d : Falling l.initial.d l.k l.w l.d;
}
