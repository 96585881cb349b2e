-- One pass over the lines of one direction, as the code takes it: line y starts at place y·across, and its n places are `along` apart.
-- Rows have along 1 and across W, columns along W and across 1. Assumes nothing.
use Rattle.std.specs.Prelude.{ℕ, ◌+◌, ◌*◌, ◌≤◌, ◌<◌, List, ℤ, pos, nat_abs, get_or}
use Rattle.arith.specs.Move.{fraction}
use Rattle.lists.specs.Line.{line}
use Rattle.lists.specs.Grid.{passed}
use Rattle.settings.specs.declared.Border.{Border}
use Rattle.kernels.specs.declared.Kernel.{Kernel}
use Rattle.moves.specs.Border.{move_in, grey}
use Rattle.moves.specs.declared.Part.{Part}
use Rattle.moves.specs.Row.{weighed_part, places, held}
use Rattle.offsets.specs.Moves.{move_of, Slight}
use Rattle.grid.specs.declared.Strides.{Strides}
use Rattle.shears.specs.declared.Shear.{Shear}

-- place k of line y, moved by the d that `moves` gives, under a border
abbrev pub moved_at : Border → Kernel → (ℕ → ℤ) → ℕ → List ℤ → ℕ → ℤ
moved_at β κ moves y s k = line (move_in β κ (moves y) s) k

-- the first lines moved, each from the picture as it stands when its turn comes
abbrev pub lines_moved : Border → Kernel → (ℕ → ℤ) → ℕ → ℕ → ℕ → ℕ → List ℤ → List ℤ
lines_moved β κ moves n along across lines pic = passed n along across (moved_at β κ moves) lines pic

-- the moves that are made of lines of n places, held to n samples under background
abbrev pub held_moves : Border → ℕ → (ℕ → ℤ) → ℕ → ℤ
held_moves β n moves y = held β n (moves y)

-- a part of a prepared line y weighed at its f
abbrev pub weighed_line : Kernel → (ℕ → ℤ) → ℕ → Part → List ℤ → List ℤ
weighed_line κ moves y = weighed_part κ (pos (fraction (moves y)))

-- the same of a shear: what line y becomes, the first lines moved, and a part of line y of n places weighed
abbrev pub sheared_line : Shear → ℕ → List ℤ → ℕ → ℤ
sheared_line h = moved_at h.border h.kernel (move_of h.moves)

abbrev pub sheared : Shear → Strides → ℕ → List ℤ → List ℤ
sheared h s = lines_moved h.border h.kernel (move_of h.moves) s.n s.along s.across

abbrev pub weighed_at : Shear → ℕ → ℕ → Part → List ℤ → List ℤ
weighed_at h n = weighed_line h.kernel (held_moves h.border n (move_of h.moves))

-- the samples of the lines are within ±M
abbrev pub LinesWithin : Strides → ℕ → ℕ → List ℤ → Type 0
LinesWithin s lines M pic = (y k : ℕ) → y < lines → k < s.n → nat_abs (get_or pic (y * s.across + k * s.along) (pos 0)) ≤ M

-- what shearing `lines` lines of n places asks: the sizes, the ranges of the background and of the moves, and work places for four lines with what
-- stands on either side of them
pub record Movable (h : Shear) (n lines room : ℕ) : Type 0 where
  pub some : 1 ≤ n
  pub short : n ≤ 1024
  pub few : lines ≤ 1024
  pub slight : Slight h.moves
  pub plain : nat_abs (grey h.border) ≤ 294912
  pub roomy : 4 * places h.border n ≤ room
