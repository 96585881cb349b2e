-- `digits::spell` meets its contract.
use mathlib.Core.Path.{◌≡◌}
use Rattle.lists.proofs.Fill.{filled}
use Rattle.digits.specs.Digit.{spelt}
use Rattle.digits.proofs.spell.Given as goal

abbrev pub invariant-loop-place : goal.invariant-loop-place
invariant-loop-place l = l.out ≡ filled spelt l.place-index l.initial.out l.initial.out
