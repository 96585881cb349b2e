-- `pass` has moved the first y lines, and none of those to come. Assumes nothing.
use mathlib.Core.Path.{◌≡◌}
use Rattle.shears.specs.Pass.{sheared}
use Rattle.shears.proofs.pass.Given as goal

abbrev pub invariant-loop-y : goal.invariant-loop-y
invariant-loop-y l = l.picture ≡ sheared l.shear l.s l.y l.fn.picture
