-- The first k places of the line are put. Assumes nothing.
use mathlib.Core.Path.{◌≡◌}
use Rattle.lists.specs.Line.{line}
use Rattle.lists.specs.Grid.{put}
use Rattle.lists.proofs.store_part.Given as goal

abbrev pub invariant-loop-k : goal.invariant-loop-k
invariant-loop-k l = l.picture ≡ put l.at l.along (line l.samples) l.k l.initial.picture
