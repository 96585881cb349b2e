-- `move_fours` has moved the first 4·q lines, and none of those to come. Assumes nothing.
use Prim.Native.Nat.{◌*◌}
use mathlib.Core.Path.{◌≡◌}
use Rattle.shears.specs.Pass.{sheared}
use Rattle.shears.proofs.move_fours.Given as goal

abbrev pub invariant-loop-q : goal.invariant-loop-q
invariant-loop-q l = l.picture ≡ sheared l.shear l.s (4 * l.q) l.initial.picture
