-- `downward`: x is the value of the run at k, and the places from k on have coefficients (`Falling`). Assumes nothing.
use mathlib.Core.Path.{refl}
use native.Mathlib.Omega.{arith}
use Rattle.prefilter.proofs.InPlace.{falling_start, falling_end, falling_asks, falling_size, falling_next}
use Rattle.prefilter.proofs.downward.Goals as goal

pub loop-k-init : goal.loop-k-init
loop-k-init c = let x = c.run_in_down-x in falling_start c.args.u.now _ x.result refl x.type_inv x.ensures

pub fall-x-requires : goal.fall-x-requires
fall-x-requires c = falling_asks c.requires (omega arith) (omega arith) c.loop-k.invariant

pub scale-requires : goal.scale-requires
scale-requires c =
    let x = c.fall-x in
    falling_size c.requires (omega arith) (omega arith) c.loop-k.invariant x.result x.type_inv x.ensures

pub loop-k-preserved : goal.loop-k-preserved
loop-k-preserved c =
    let x = c.fall-x in
    let y = c.scale in
    falling_next c.requires (omega arith) (omega arith) c.loop-k.invariant x.result x.type_inv x.ensures y.result y.type_inv y.ensures

pub returns : goal.returns
returns c = falling_end c.loop-k.invariant (omega arith)
