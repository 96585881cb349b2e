-- `upward_four`: each line keeps what `upward` keeps of one. Assumes nothing.
use Rattle.prefilter.proofs.InPlace.{Rising}
use Rattle.prefilter.proofs.upward_four.Given as goal

abbrev pub invariant-loop-k : goal.invariant-loop-k
invariant-loop-k l = record {
  a : Rising l.initial.a l.k l.x l.a;
  b : Rising l.initial.b l.k l.y l.b;
  c : Rising l.initial.c l.k l.z l.c;
  d : Rising l.initial.d l.k l.w l.d;
}
