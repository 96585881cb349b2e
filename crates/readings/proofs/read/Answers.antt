-- `readings::read` is the reading of a sample. A sample, black and white are all within the range, so their differences fit. Assumes nothing.
use Prim.Native.Nat.{◌≤◌}
use mathlib.Core.Path.{sym, ap, ◌∙◌}
use native.Mathlib.Omega.{arith}
use lib.Dec.{lit≤}
use lib.IntN.{ℤ, nat_abs, ◌-ℤ◌}
use mir.Syntax.{w32}
use mir.Val.{SFits}
use mir.Facts.{to_z-of_z}
use Rattle.arith.proofs.Bridge.{bridge, all2}
use Rattle.arith.proofs.Machine.{lt-true, lt-false}
use Rattle.readings.specs.declared.Reading.TheVariants.{Level, Under, Over}
use Rattle.readings.specs.Sample.{black, white}
use Rattle.readings.specs.Answers.{range}
use Rattle.readings.proofs.Cases.{level-between, under_below, over_above, difference_size}
use Rattle.readings.proofs.read.Goals as goal

difference_fits : (a b : ℤ) → nat_abs a ≤ range → nat_abs b ≤ range → SFits w32 (a -ℤ b)
difference_fits = all2 _ (simp bridge (omega arith))

module _ (v : ℤ) (h : nat_abs v ≤ range) where
  under_fits : SFits w32 (black -ℤ v)
  under_fits = difference_fits black v (lit≤ tt) h

  over_fits : SFits w32 (v -ℤ white)
  over_fits = difference_fits v white h (lit≤ tt)

pub overflow_sub-v : goal.overflow_sub-v
overflow_sub-v c = rw (to_z-of_z c.ranges.v) (under_fits c.args.v c.requires)

pub float-requires : goal.float-requires
float-requires c =
    rw (to_z-of_z c.ranges.v, to_z-of_z (under_fits c.args.v c.requires)) (difference_size black c.args.v (lit≤ tt) c.requires)

pub returns-then-v-lt-BLACK : goal.returns-then-v-lt-BLACK
returns-then-v-lt-BLACK c =
    let e = rw (to_z-of_z c.ranges.v, to_z-of_z (under_fits c.args.v c.requires)) at c.float.ensures in
    ap Under e ∙ sym (under_below c.args.v (lt-true c.args.v black (rw (to_z-of_z c.ranges.v) at c.if-v-lt-BLACK.true)))

pub overflow_sub-v-then-v-gt-WHITE : goal.overflow_sub-v-then-v-gt-WHITE
overflow_sub-v-then-v-gt-WHITE c = rw (to_z-of_z c.ranges.v) (over_fits c.args.v c.requires)

pub float-requires-then-v-gt-WHITE : goal.float-requires-then-v-gt-WHITE
float-requires-then-v-gt-WHITE c =
    rw (to_z-of_z c.ranges.v, to_z-of_z (over_fits c.args.v c.requires)) (difference_size c.args.v white c.requires (lit≤ tt))

pub returns-then-v-gt-WHITE : goal.returns-then-v-gt-WHITE
returns-then-v-gt-WHITE c =
    let e = rw (to_z-of_z c.ranges.v, to_z-of_z (over_fits c.args.v c.requires)) at c.float-then-v-gt-WHITE.ensures in
    ap Over e ∙ sym (over_above c.args.v (lt-true white c.args.v (rw (to_z-of_z c.ranges.v) at c.if-v-gt-WHITE.true)))

pub float-requires-2 : goal.float-requires-2
float-requires-2 c = rw (to_z-of_z c.ranges.v) (omega (arith, c.requires))

pub returns : goal.returns
returns c =
    let e = rw (to_z-of_z c.ranges.v) at c.float-2.ensures in
    let above = lt-false c.args.v black (rw (to_z-of_z c.ranges.v) at c.if-v-lt-BLACK.false) in
    let below = lt-false white c.args.v (rw (to_z-of_z c.ranges.v) at c.if-v-gt-WHITE.false) in
    ap Level e ∙ sym (level-between c.args.v above below)
