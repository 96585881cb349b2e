-- `turns::load_block` fills the block row by row. The loop: its first j rows are filled. Assumes nothing.
use Rattle.arrangements.specs.Patches.{Patch}
use Rattle.turns.specs.Block.{loaded, least_column}
use Rattle.turns.proofs.load_block.Given as goal

abbrev pub invariant-loop-j : goal.invariant-loop-j
invariant-loop-j l =
    Patch 68 0 l.tile.rows 0 l.j (loaded l.view l.tile.x (least_column l.view l.tile) l.picture) l.initial.block l.block
