-- `coefficients`: u in place, and then c. Assumes nothing.
use mathlib.Core.Path.{ap, ◌∙◌}
use Rattle.prefilter.specs.InPlace.{LineWithin, fallen}
use Rattle.prefilter.proofs.InPlace.{risen_within, coefficients_in_place}
use Rattle.prefilter.proofs.coefficients.Goals as goal
use Rattle.prefilter.proofs.coefficients.Goals.{Start}

given : (c : Start) → LineWithin 294912 c.args.line.now
given c = record { some = c.requires.in_bounds.0; few = c.requires.in_bounds.1; bounded = c.requires.by_index }

pub downward-requires : goal.downward-requires
downward-requires c = rw c.upward.ensures (risen_within (given (goal.at.downward-requires c).Start))

pub returns : goal.returns
returns c = c.downward.ensures ∙ ap fallen c.upward.ensures ∙ coefficients_in_place c.args.line.now c.requires.in_bounds.0
