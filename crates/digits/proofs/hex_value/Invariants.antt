-- `digits::hex_value` meets its contract.
use Prim.Native.Nat.{◌^◌, ◌<◌}
use mathlib.Core.Path.{◌≡◌}
use lib.ListN.{drop}
use Rattle.digits.specs.Digit.{value_from, hex_value}
use Rattle.digits.proofs.hex_value.Given as goal

abbrev pub invariant-loop-b : goal.invariant-loop-b
invariant-loop-b l = (l.v < 16 ^ l.b-index) × (value_from l.v (drop l.b-index l.s) ≡ hex_value l.s)
