-- `turns::write_rows` writes row after row. The loop: the first y rows are written. Assumes nothing.
use mathlib.Core.Bool.{false}
use Rattle.arrangements.specs.Moves.{screen}
use Rattle.arrangements.specs.Views.{viewed}
use Rattle.arrangements.specs.Patches.{Patch}
use Rattle.turns.proofs.write_rows.Given as goal

abbrev pub invariant-loop-y : goal.invariant-loop-y
invariant-loop-y l = let v = l.view in Patch l.width 0 l.width 0 l.y (viewed false v.right v.below (screen v.width v.height l.picture)).at l.initial.res l.res
