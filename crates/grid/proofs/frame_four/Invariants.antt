-- `frame_four` frames row after row. Assumes nothing.
use Prim.Native.Nat.{ℕ, ◌<◌}
use Rattle.lists.specs.Grid.{row_of}
use Rattle.moves.specs.Row.{Framed}
use Rattle.grid.proofs.frame_four.Given as goal

abbrev pub invariant-loop-i : goal.invariant-loop-i
invariant-loop-i l = (j : ℕ) → j < l.i → Framed l.n l.b l.part (row_of l.m l.work j)
