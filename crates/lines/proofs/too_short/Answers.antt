-- `lines::too_short` is the test `too_short`. Assumes nothing.
use mathlib.Core.Path.{refl}
use borrow.Author.Tests.{lt-ltb, le-ltb}
use Rattle.refusals.specs.Tests.{short}
use Rattle.lines.specs.Answer.{too_short}
use Rattle.lines.proofs.too_short.Goals as goal

pub returns-then-held-n : goal.returns-then-held-n
unfolding too_short short
returns-then-held-n c = rw (lt-ltb _ _ c.if-held-n.true) refl

pub returns-else-held-n : goal.returns-else-held-n
unfolding too_short short
returns-else-held-n c = rw (le-ltb _ _ c.if-held-n.false) refl
