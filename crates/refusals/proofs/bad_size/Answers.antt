-- `refusals::bad_size` is the test `bad_size`. Assumes nothing.
use mathlib.Core.Path.{refl}
use Rattle.refusals.specs.Tests.{bad_size}
use Rattle.refusals.proofs.bad_size.Goals as goal

pub returns-then-bad_side : goal.returns-then-bad_side
unfolding bad_size
returns-then-bad_side c = rw (← c.bad_side.ensures, c.if-bad_side.true) refl

pub returns-else-bad_side : goal.returns-else-bad_side
unfolding bad_size
returns-else-bad_side c = rw (← c.bad_side.ensures, c.if-bad_side.false, c.bad_side-else-bad_side.ensures) refl
