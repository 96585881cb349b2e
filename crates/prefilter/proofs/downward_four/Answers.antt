-- `downward_four`: each line keeps what `downward` keeps of one. Assumes nothing.
use native.Mathlib.Omega.{arith}
use Rattle.prefilter.proofs.InPlace.{falling_start, falling_end, falling_asks, falling_size, falling_next}
use Rattle.prefilter.proofs.downward_four.Goals as goal

pub loop-k-init : goal.loop-k-init
loop-k-init c = record {
  a = falling_start c.args.a.now _ c.run_in_down-x.result (omega arith) c.run_in_down-x.type_inv c.run_in_down-x.ensures;
  b = falling_start c.args.b.now _ c.run_in_down-y.result (omega arith) c.run_in_down-y.type_inv c.run_in_down-y.ensures;
  c = falling_start c.args.c.now _ c.run_in_down-z.result (omega arith) c.run_in_down-z.type_inv c.run_in_down-z.ensures;
  d = falling_start c.args.d.now _ c.run_in_down-w.result (omega arith) c.run_in_down-w.type_inv c.run_in_down-w.ensures;
}

pub fall-x-requires : goal.fall-x-requires
fall-x-requires c = falling_asks c.requires.first (omega arith) (omega arith) c.loop-k.invariant.a

pub fall-y-requires : goal.fall-y-requires
fall-y-requires c = falling_asks c.requires.second (omega arith) (omega arith) c.loop-k.invariant.b

pub fall-z-requires : goal.fall-z-requires
fall-z-requires c = falling_asks c.requires.third (omega arith) (omega arith) c.loop-k.invariant.c

pub fall-w-requires : goal.fall-w-requires
fall-w-requires c = falling_asks c.requires.fourth (omega arith) (omega arith) c.loop-k.invariant.d

pub scale-e-requires : goal.scale-e-requires
scale-e-requires c = falling_size c.requires.first (omega arith) (omega arith) c.loop-k.invariant.a c.fall-x.result c.fall-x.type_inv c.fall-x.ensures

pub scale-f-requires : goal.scale-f-requires
scale-f-requires c = falling_size c.requires.second (omega arith) (omega arith) c.loop-k.invariant.b c.fall-y.result c.fall-y.type_inv c.fall-y.ensures

pub scale-g-requires : goal.scale-g-requires
scale-g-requires c = falling_size c.requires.third (omega arith) (omega arith) c.loop-k.invariant.c c.fall-z.result c.fall-z.type_inv c.fall-z.ensures

pub scale-h-requires : goal.scale-h-requires
scale-h-requires c = falling_size c.requires.fourth (omega arith) (omega arith) c.loop-k.invariant.d c.fall-w.result c.fall-w.type_inv c.fall-w.ensures

pub loop-k-preserved : goal.loop-k-preserved
loop-k-preserved c = record {
  a =
      falling_next c.requires.first (omega arith) (omega arith) c.loop-k.invariant.a c.fall-x.result c.fall-x.type_inv c.fall-x.ensures
      c.scale-e.result c.scale-e.type_inv c.scale-e.ensures;
  b =
      falling_next c.requires.second (omega arith) (omega arith) c.loop-k.invariant.b c.fall-y.result c.fall-y.type_inv c.fall-y.ensures
      c.scale-f.result c.scale-f.type_inv c.scale-f.ensures;
  c =
      falling_next c.requires.third (omega arith) (omega arith) c.loop-k.invariant.c c.fall-z.result c.fall-z.type_inv c.fall-z.ensures
      c.scale-g.result c.scale-g.type_inv c.scale-g.ensures;
  d =
      falling_next c.requires.fourth (omega arith) (omega arith) c.loop-k.invariant.d c.fall-w.result c.fall-w.type_inv c.fall-w.ensures
      c.scale-h.result c.scale-h.type_inv c.scale-h.ensures;
}

pub returns : goal.returns
returns c =
    let i = c.loop-k.invariant in
    record { first = (falling_end i.a (omega arith), falling_end i.b (omega arith)); last = (falling_end i.c (omega arith), falling_end i.d (omega arith)) }
