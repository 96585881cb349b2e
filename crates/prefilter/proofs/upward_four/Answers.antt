-- `upward_four`: each line keeps what `upward` keeps of one. Assumes nothing.
use native.Mathlib.Omega.{arith}
use Rattle.prefilter.proofs.InPlace.{rising_start, rising_end, rising_asks, rising_fits, rising_next}
use Rattle.prefilter.proofs.upward_four.Goals as goal

pub loop-k-init : goal.loop-k-init
loop-k-init c = record {
  a = rising_start c.args.a.now c.run_in_up-x.result c.run_in_up-x.type_inv c.run_in_up-x.ensures;
  b = rising_start c.args.b.now c.run_in_up-y.result c.run_in_up-y.type_inv c.run_in_up-y.ensures;
  c = rising_start c.args.c.now c.run_in_up-z.result c.run_in_up-z.type_inv c.run_in_up-z.ensures;
  d = rising_start c.args.d.now c.run_in_up-w.result c.run_in_up-w.type_inv c.run_in_up-w.ensures;
}

pub loop-k-preserved : goal.loop-k-preserved
loop-k-preserved c = record {
  a = rising_next c.requires.first (omega arith) c.loop-k.invariant.a c.rise-x.result c.rise-x.type_inv c.rise-x.ensures;
  b = rising_next c.requires.second (omega arith) c.loop-k.invariant.b c.rise-y.result c.rise-y.type_inv c.rise-y.ensures;
  c = rising_next c.requires.third (omega arith) c.loop-k.invariant.c c.rise-z.result c.rise-z.type_inv c.rise-z.ensures;
  d = rising_next c.requires.fourth (omega arith) c.loop-k.invariant.d c.rise-w.result c.rise-w.type_inv c.rise-w.ensures;
}

pub rise-x-requires : goal.rise-x-requires
rise-x-requires c = rising_asks c.requires.first (omega arith) c.loop-k.invariant.a

pub rise-y-requires : goal.rise-y-requires
rise-y-requires c = rising_asks c.requires.second (omega arith) c.loop-k.invariant.b

pub rise-z-requires : goal.rise-z-requires
rise-z-requires c = rising_asks c.requires.third (omega arith) c.loop-k.invariant.c

pub rise-w-requires : goal.rise-w-requires
rise-w-requires c = rising_asks c.requires.fourth (omega arith) c.loop-k.invariant.d

pub overflow_cast-a : goal.overflow_cast-a
overflow_cast-a c = rising_fits c.requires.first (omega arith) c.loop-k.invariant.a c.rise-x.result c.rise-x.type_inv c.rise-x.ensures

pub overflow_cast-b : goal.overflow_cast-b
overflow_cast-b c = rising_fits c.requires.second (omega arith) c.loop-k.invariant.b c.rise-y.result c.rise-y.type_inv c.rise-y.ensures

pub overflow_cast-c : goal.overflow_cast-c
overflow_cast-c c = rising_fits c.requires.third (omega arith) c.loop-k.invariant.c c.rise-z.result c.rise-z.type_inv c.rise-z.ensures

pub overflow_cast-d : goal.overflow_cast-d
overflow_cast-d c = rising_fits c.requires.fourth (omega arith) c.loop-k.invariant.d c.rise-w.result c.rise-w.type_inv c.rise-w.ensures

pub returns : goal.returns
returns c =
    let i = c.loop-k.invariant in
    record { first = (rising_end i.a (omega arith), rising_end i.b (omega arith)); last = (rising_end i.c (omega arith), rising_end i.d (omega arith)) }
