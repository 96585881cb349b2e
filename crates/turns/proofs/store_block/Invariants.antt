-- `turns::store_block` writes the block's columns as rows of the result. The loop: the first i of them are written. Assumes nothing.
use Prim.Native.Nat.{◌+◌, ◌*◌}
use Rattle.lists.specs.Line.{line}
use Rattle.arrangements.specs.Views.{facing}
use Rattle.arrangements.specs.Patches.{Patch}
use Rattle.turns.proofs.store_block.Given as goal

abbrev pub invariant-loop-i : goal.invariant-loop-i
invariant-loop-i l =
    let t = l.tile in
    Patch l.view.height t.x t.columns t.y l.i (λ m j. line l.block (facing l.view.right t.rows m + j * 68)) l.initial.res l.res
