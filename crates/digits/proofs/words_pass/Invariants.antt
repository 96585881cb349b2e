-- `digits::words_pass` meets its contract.
use Prim.Native.Nat.{◌*◌}
use mathlib.Core.Bool.{◌&&◌}
use mathlib.Core.Path.{◌≡◌}
use lib.Dec.{eqb}
use lib.ListN.{drop}
use Rattle.digits.specs.Digit.{all_digits}
use Rattle.digits.proofs.words_pass.Given as goal

abbrev pub invariant-loop-k : goal.invariant-loop-k
invariant-loop-k l = (eqb l.mark 0 && all_digits (drop (8 * l.k) l.s)) ≡ all_digits l.s
