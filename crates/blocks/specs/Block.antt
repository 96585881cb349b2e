-- A block of pictures over time, stored picture after picture by depth: its slices in each of the three planes, and the block straightened in one
-- of them. Assumes nothing.
use Rattle.std.specs.Prelude.{ℕ, zero, suc, ◌+◌, ◌*◌, ◌/◌, ◌%◌, List, ℤ}
use Rattle.lists.specs.Tab.{tab}
use Rattle.settings.specs.declared.Setting.{Setting}
use Rattle.lists.specs.Picture.{Picture}
use Rattle.passes.specs.Picture.{straightened}
use Rattle.planes.specs.declared.Slices.{Slices}
use Rattle.planes.specs.Slices.{slice}
use Rattle.pictures.specs.Answer.{kernel_in, row_moves, column_moves}

-- where the sample of depth z, row y and column x stands
abbrev pub place : ℕ → ℕ → ℕ → ℕ → ℕ → ℕ
place W H z y x = z * (W * H) + (y * W + x)

-- the slices of a plane, 0 across and down, 1 across and depth, 2 down and depth, the first named counted as columns. A plane over 2 is refused
abbrev pub slices_of : ℕ → ℕ → ℕ → ℕ → Slices
slices_of W H D zero = record { columns = W; rows = H; slices = D; along = 1; across = W; step = W * H }
slices_of W H D (suc zero) = record { columns = W; rows = D; slices = H; along = 1; across = W * H; step = W }
slices_of W H D (suc (suc plane)) = record { columns = H; rows = D; slices = W; along = W; across = W * H; step = 1 }

-- the slice that place p is in, and its row and its column there: p has the depth p / (W·H), the row p / W modulo H and the column p modulo W
abbrev pub slice_at : ℕ → ℕ → ℕ → ℕ → ℕ
slice_at W H zero p = p / (W * H)
slice_at W H (suc zero) p = p / W % H
slice_at W H (suc (suc plane)) p = p % W

abbrev pub row_at : ℕ → ℕ → ℕ → ℕ → ℕ
row_at W H zero p = p / W % H
row_at W H (suc plane) p = p / (W * H)

abbrev pub column_at : ℕ → ℕ → ℕ → ℕ → ℕ
column_at W H zero p = p % W
column_at W H (suc zero) p = p % W
column_at W H (suc (suc plane)) p = p / W % H

-- document 01's three passes of a slice of a list
abbrev pub straight_slice : Slices → Setting → List ℤ → ℕ → Picture
straight_slice s set list i = straightened set.border (kernel_in set) s.columns s.rows (row_moves set) (column_moves set) (slice s list i)

-- the W·H·D samples that the call writes: each is the one of its row and its column in its slice, straightened
unfoldable pub straighten_block : ℕ → ℕ → ℕ → ℕ → Setting → List ℤ → List ℤ
straighten_block W H D plane set block =
    tab (λ p. straight_slice (slices_of W H D plane) set block (slice_at W H plane p) (row_at W H plane p) (column_at W H plane p)) (W * H * D)
