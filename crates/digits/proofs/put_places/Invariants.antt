-- `digits::put_places` meets its contract.
use mathlib.Core.List.{◌++◌}
use mathlib.Core.Path.{◌≡◌}
use lib.ListN.{length, drop}
use Rattle.digits.specs.Digit.{places_of}
use Rattle.digits.proofs.put_places.Given as goal

abbrev pub invariant-loop-n : goal.invariant-loop-n
invariant-loop-n l = places_of l.n l.rest ++ drop l.n l.out ≡ places_of (length l.initial.out) l.v
