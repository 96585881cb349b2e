-- `steps::listed` meets its contract: the array is the list of specs/Table. Assumes nothing.
use mathlib.Core.Path.{refl, ◌∙◌, ap}
use lib.IntN.{nat_abs}
use mir.Facts.{to_z-of_z}
use Rattle.steps.specs.Step.{entry}
use Rattle.steps.proofs.listed.Goals as goal

pub returns : goal.returns
unfolding entry
returns c = rw (c.unsigned_abs.ensures.value ∙ ap nat_abs (to_z-of_z c.ranges.t)) refl
