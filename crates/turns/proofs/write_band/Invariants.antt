-- `turns::write_band` writes some rows of the result block after block. The loop: their columns before column x are written. Assumes nothing.
use Prim.Native.Nat.{◌+◌, ◌-◌, ◌≤◌}
use Rattle.arrangements.specs.Patches.{Patch}
use Rattle.turns.specs.Block.{seen}
use Rattle.turns.proofs.write_band.Given as goal

abbrev pub invariant-loop-x : goal.invariant-loop-x
invariant-loop-x l = record {
  inside : l.x ≤ l.height;
  written : Patch l.height 0 l.x l.y l.rows (λ i k. seen l.view l.picture (l.y + i) k) l.initial.res l.res;
}

abbrev pub decreases-loop-x : goal.decreases-loop-x
decreases-loop-x l = l.height - l.x
