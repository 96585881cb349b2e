-- `turns::write_columns` writes band after band. The loop: the rows before row y are written. Assumes nothing.
use Prim.Native.Nat.{◌-◌, ◌≤◌}
use Rattle.arrangements.specs.Patches.{Patch}
use Rattle.turns.specs.Block.{seen}
use Rattle.turns.proofs.write_columns.Given as goal

abbrev pub invariant-loop-y : goal.invariant-loop-y
invariant-loop-y l = record {
  inside : l.y ≤ l.width;
  written : Patch l.view.height 0 l.view.height 0 l.y (seen l.view l.picture) l.initial.res l.res;
}

abbrev pub decreases-loop-y : goal.decreases-loop-y
decreases-loop-y l = l.width - l.y
