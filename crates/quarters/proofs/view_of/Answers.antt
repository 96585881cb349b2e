-- `quarters::view_of` is the view of a move. Assumes nothing.
use mathlib.Core.Path.{refl}
use Rattle.quarters.proofs.view_of.Goals as goal

pub returns : goal.returns
returns c = rw (c.from_right.ensures, c.from_below.ensures) refl
