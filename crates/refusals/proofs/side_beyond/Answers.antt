-- `refusals::side_beyond` is the test `side_beyond`. Assumes nothing.
use mathlib.Core.Path.{refl}
use borrow.Author.Tests.{eq-eqb, ne_eqb}
use Rattle.refusals.proofs.side_beyond.Goals as goal

pub returns-then-side-eq0 : goal.returns-then-side-eq0
returns-then-side-eq0 c = rw (eq-eqb _ _ c.if-side-eq0.true) refl

pub returns-else-side-eq0 : goal.returns-else-side-eq0
returns-else-side-eq0 c = rw (ne_eqb _ _ c.if-side-eq0.false) refl
