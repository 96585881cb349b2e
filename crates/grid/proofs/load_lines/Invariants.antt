-- `load_lines` replaces row after row of work by a line of the picture, set in as its border has it. Assumes nothing.
use Prim.Native.Nat.{ℕ, ◌+◌, ◌*◌, ◌<◌}
use Rattle.lists.specs.Grid.{line_of, row_of}
use Rattle.moves.specs.Row.{set_in, Alike}
use Rattle.grid.proofs.load_lines.Given as goal

abbrev pub invariant-loop-i : goal.invariant-loop-i
invariant-loop-i l =
    (j : ℕ) → j < l.i → Alike l.part (row_of l.m l.work j) (set_in l.border (line_of (l.at + j * l.s.across) 1 l.s.n l.picture))
