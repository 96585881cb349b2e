-- `Direction::smallest` meets its contract: the answer is one of the two places beside the change of sign. Assumes nothing.
use native.Mathlib.Omega.{arith}
use mir.Syntax.{w64}
use Rattle.arith.proofs.Machine.{read_back, lt-true, lt-false}
use Rattle.arith.proofs.Compute.{arg, num, ◌-ᵐ◌, Sized, arg_sized, num_sized, minus_sized, fit, reads}
use Rattle.levelling.proofs.Levelling.{lower_smallest, upper_smallest}
use Rattle.levelling.proofs.Direction.smallest.Goals as goal
use Rattle.levelling.proofs.Direction.smallest.Goals.{After-miss_at-below}

turned : (c : After-miss_at-below) → Sized {w = w64} (num 0 -ᵐ arg c.miss_at-below.result) 100000000000
turned c = minus_sized (num_sized 0 tt) (arg_sized 100000000000 (record { sfits = c.miss_at-below.type_inv }) c.miss_at-below.ensures.size) tt

pub overflow_sub-below : goal.overflow_sub-below
overflow_sub-below c = fit 0 (turned c)

-- the test, on the two misses
pub returns-then-above-below : goal.returns-then-above-below
returns-then-above-below c =
    let line = c.args.self in
    let b = c.sign_change-lo.ensures in
    let t = rw (read_back w64 c.miss_at-above.result c.miss_at-above.type_inv, reads (turned c.before.before)) at c.if-above-below.true in
    (upper_smallest line.dx line.dy line.flat c.sign_change-lo.result b _ _ c.miss_at-below.ensures.is c.miss_at-above.ensures.is (lt-true _ _ t), b.top)

pub returns-else-above-below : goal.returns-else-above-below
returns-else-above-below c =
    let line = c.args.self in
    let b = c.sign_change-lo.ensures in
    let t = rw (read_back w64 c.miss_at-above.result c.miss_at-above.type_inv, reads (turned c.before.before)) at c.if-above-below.false in
    let e = lower_smallest line.dx line.dy line.flat c.sign_change-lo.result b _ _ c.miss_at-below.ensures.is c.miss_at-above.ensures.is (lt-false _ _ t) in
    (e, omega (arith, b.top))
