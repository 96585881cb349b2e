-- `refusals::beyond` is the test `beyond_of`. Assumes nothing.
use Prim.Native.Nat.{◌<◌, ◌≤◌}
use mathlib.Core.Path.{◌≡◌, refl, sym, ◌∙◌}
use mathlib.Core.Bool.{Bool, true, false}
use native.Mathlib.Omega.{arith}
use lib.IntN.{ℤ, pos, nat_abs, ◌-ℤ◌}
use lib.Signed.{◌≤ℤ◌, ◌<ℤ◌, lt_z}
use mir.Syntax.{w32}
use mir.Val.{SFits}
use mir.Facts.{to_z-of_z}
use Rattle.arith.proofs.Bridge.{bridge, all1, all2}
use Rattle.arith.proofs.Machine.{lt-true, lt-false}
use Rattle.refusals.specs.Tests.{beyond_of}
use Rattle.refusals.proofs.Tests.{good_beyond, bad_beyond}
use Rattle.refusals.proofs.beyond.Goals as goal

negated_fits : (limit : ℤ) → pos 0 ≤ℤ limit → limit ≤ℤ pos 4194304 → SFits w32 (pos 0 -ℤ limit)
negated_fits = all1 _ (simp bridge (omega arith))

above : (limit v : ℤ) → pos 0 ≤ℤ limit → limit <ℤ v → nat_abs limit < nat_abs v
above = all2 _ (simp bridge (omega arith))

below : (limit v : ℤ) → pos 0 ≤ℤ limit → v <ℤ (pos 0 -ℤ limit) → nat_abs limit < nat_abs v
below = all2 _ (simp bridge (omega arith))

between : (limit v : ℤ) → pos 0 ≤ℤ limit → v ≤ℤ limit → (pos 0 -ℤ limit) ≤ℤ v → nat_abs v ≤ nat_abs limit
between = all2 _ (simp bridge (omega arith))

-- of a number that is not above the limit, the test at its negative decides
not_above : (limit v : ℤ) (t : Bool) → pos 0 ≤ℤ limit → v ≤ℤ limit → lt_z v (pos 0 -ℤ limit) ≡ t → t ≡ beyond_of (nat_abs limit) v
not_above limit v true h le e = sym (bad_beyond v (below limit v h (lt-true v (pos 0 -ℤ limit) e)))
not_above limit v false h le e = sym (good_beyond v (between limit v h le (lt-false v (pos 0 -ℤ limit) e)))

pub overflow_sub-result : goal.overflow_sub-result
overflow_sub-result c = rw (to_z-of_z c.ranges.limit) (negated_fits c.args.limit c.requires.from c.requires.to)

pub returns-then-limit-v : goal.returns-then-limit-v
returns-then-limit-v c =
    let t = rw (to_z-of_z c.ranges.limit, to_z-of_z c.ranges.v) at c.if-limit-v.true in
    c.if-limit-v.true ∙ sym (bad_beyond c.args.v (above c.args.limit c.args.v c.requires.from (lt-true c.args.limit c.args.v t)))

pub returns-else-limit-v : goal.returns-else-limit-v
returns-else-limit-v c =
    let t = rw (to_z-of_z c.ranges.limit, to_z-of_z c.ranges.v) at c.if-limit-v.false in
    let limit = c.args.limit in
    rw (to_z-of_z c.ranges.limit, to_z-of_z c.ranges.v, to_z-of_z (negated_fits limit c.requires.from c.requires.to))
    (not_above limit c.args.v _ c.requires.from (lt-false limit c.args.v t) refl)
