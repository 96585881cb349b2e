-- The smallest and the largest of the samples so far. Assumes nothing.
use mathlib.Core.Path.{◌≡◌}
use Rattle.lists.specs.Line.{line}
use Rattle.lists.specs.Ends.{smallest, largest}
use Rattle.lists.proofs.extremes_of.Given as goal

abbrev pub invariant-loop-v : goal.invariant-loop-v
invariant-loop-v l = (l.smallest ≡ smallest (line l.samples) l.v-index) × (l.largest ≡ largest (line l.samples) l.v-index)
