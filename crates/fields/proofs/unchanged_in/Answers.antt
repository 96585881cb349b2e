-- `fields::unchanged_in` meets its contract.
use native.Mathlib.Omega.{arith}
use lib.Seq.{length-take-le}
use Rattle.digits.proofs.Test.{all_part}
use Rattle.fields.proofs.unchanged_in.Goals as goal

pub hex_value-kernel-requires : goal.hex_value-kernel-requires
hex_value-kernel-requires c =
    (omega (arith, length-take-le 2 c.args.line.now (omega arith)), all_part 2 0 c.args.line.now c.requires.1)
