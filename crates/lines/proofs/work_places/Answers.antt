-- `lines::work_places` answers what `work_places` says. Assumes nothing.
use mathlib.Core.Path.{refl, sym}
use native.Mathlib.Omega.{arith}
use Rattle.refusals.proofs.Tests.{side_good}
use Rattle.lines.specs.Answer.{work_places}
use Rattle.lines.proofs.work_places.Goals as goal

pub returns-then-bad_side : goal.returns-then-bad_side
unfolding work_places
returns-then-bad_side c = rw (sym c.if-bad_side.ensures) refl

pub overflow_mul-result : goal.overflow_mul-result
overflow_mul-result c = omega (arith, side_good (sym c.if-bad_side.ensures))

pub returns-else-bad_side : goal.returns-else-bad_side
unfolding work_places
returns-else-bad_side c = rw (sym c.if-bad_side.ensures) refl
