-- `upward`: x is u(k - 1), and the first k places have u (`Rising`). Assumes nothing.
use native.Mathlib.Omega.{arith}
use Rattle.prefilter.proofs.InPlace.{rising_start, rising_end, rising_asks, rising_fits, rising_next}
use Rattle.prefilter.proofs.upward.Goals as goal

pub loop-place-init : goal.loop-place-init
loop-place-init c = let x = c.run_in_up-x in rising_start c.args.s.now x.result x.type_inv x.ensures

pub rise-x-requires : goal.rise-x-requires
rise-x-requires c = rising_asks c.requires (omega arith) c.loop-place.invariant

pub overflow_cast-place : goal.overflow_cast-place
overflow_cast-place c =
    let x = c.rise-x in
    rising_fits c.requires (omega arith) c.loop-place.invariant x.result x.type_inv x.ensures

pub loop-place-preserved : goal.loop-place-preserved
loop-place-preserved c =
    let x = c.rise-x in
    rising_next c.requires (omega arith) c.loop-place.invariant x.result x.type_inv x.ensures

pub returns : goal.returns
returns c = rising_end c.loop-place.invariant (omega arith)
