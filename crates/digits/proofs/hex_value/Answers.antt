-- `digits::hex_value` meets its contract.
use mathlib.Core.Path.{refl}
use native.Mathlib.Omega.{arith}
use lib.ListN.{length}
use Rattle.digits.specs.Digit.{hex_value}
use Rattle.digits.proofs.Test.{all_at}
use Rattle.digits.proofs.Value.{four_digits, more_digits, value_more, value_all}
use Rattle.digits.proofs.hex_value.Goals as goal

pub loop-b-init : goal.loop-b-init
unfolding hex_value
loop-b-init c = (omega arith, refl)

pub overflow_mul-v : goal.overflow_mul-v
overflow_mul-v c = omega (arith, four_digits c.loop-b.b-index (length c.args.s.now) (omega arith) c.requires.0)

pub digit_value-requires : goal.digit_value-requires
digit_value-requires c = all_at c.args.s.now c.loop-b.b-index c.requires.1 (omega arith)

pub overflow_add-v : goal.overflow_add-v
overflow_add-v c =
    omega (arith, four_digits c.loop-b.b-index (length c.args.s.now) (omega arith) c.requires.0)

pub loop-b-preserved : goal.loop-b-preserved
loop-b-preserved c =
    let s = c.args.s.now in
    (more_digits c.loop-b.v c.digit_value.result c.loop-b.b-index c.loop-b.invariant.0 c.digit_value.ensures.1, rw c.digit_value.ensures.0 (value_more s c.loop-b.v c.loop-b.b-index (omega arith) c.loop-b.invariant.1))

pub returns : goal.returns
returns c = (
  value_all c.args.s.now c.loop-b.v c.loop-b.b-index (omega arith) c.loop-b.invariant.1,
  omega (arith, four_digits c.loop-b.b-index (length c.args.s.now) (omega arith) c.requires.0),
)
