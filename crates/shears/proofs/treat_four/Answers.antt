-- `treat_four` weighs what was prepared, which is as large as the kernel can weigh. Assumes nothing.
use Prim.Native.Nat.{ℕ}
use mathlib.Core.Path.{◌≡◌, subst}
use Rattle.kernels.specs.declared.Kernel.TheVariants.{Spline}
use Rattle.moves.specs.InPlace.{prepared}
use Rattle.moves.specs.Row.{places}
use Rattle.grid.specs.Four.{FourTreated}
use Rattle.shears.proofs.Moved.{four_within, prepared-rows}
use Rattle.shears.proofs.treat_four.Goals as goal

pub prepare_four-requires-clause-four_within : goal.prepare_four-requires-clause-four_within
prepare_four-requires-clause-four_within c =
    let a = c.args in
    rw c.places_of.ensures (λ (e : a.shear.kernel ≡ Spline). four_within (places a.shear.border a.n) 294912 a.work.now (rw e at c.requires.lo_lt_hi.2))

pub weigh_four-requires-clause-lo_lt_hi : goal.weigh_four-requires-clause-lo_lt_hi
weigh_four-requires-clause-lo_lt_hi c =
    let a = c.args in
    let n = places a.shear.border a.n in
    let l = c.requires.lo_lt_hi in
    let prepared_are =
    subst (λ (n : ℕ). FourTreated n (λ (i : ℕ). prepared a.shear.kernel) a.work.now c.prepare_four.new.work) c.places_of.ensures c.prepare_four.ensures in
    (l.0, l.1, prepared-rows a.shear.kernel n a.part a.work.now c.prepare_four.new.work c.requires.movable.roomy l.0 l.1 l.2 prepared_are)
