-- The three passes over a picture. A pass over columns is one over the rows of the picture turned over its diagonal, so each law of a pass is
-- stated of rows alone. Assumes nothing.
use Rattle.std.specs.Prelude.{List, ℕ, ℤ, pos, ◌-ℤ◌, ◌*ℤ◌}
use Rattle.lists.specs.Picture.{Picture, picture, pictured}
use Rattle.settings.specs.declared.Border.{Border}
use Rattle.kernels.specs.declared.Kernel.{Kernel}
use Rattle.moves.specs.Border.{bordered}

-- turned over its diagonal: row x is column x
abbrev pub turned : Picture → Picture
turned p y x = p x y

-- row y moves by d = A·(y - cy), and column x by d = B·(x - cx)
abbrev pub shear : ℤ → ℕ → ℕ → ℤ
shear A c i = A *ℤ (pos i -ℤ pos c)

-- one pass over rows under a border: `move y` is the d of row y
unfoldable pub rows_moved : Border → Kernel → ℕ → (ℕ → ℤ) → Picture → Picture
rows_moved β κ W move p y = bordered β κ W (move y) (p y)

-- pass 1 moves the rows, pass 2 the columns, pass 3 the rows again, each from the samples that the pass before it left
abbrev pub after_one : Border → Kernel → ℕ → (ℕ → ℤ) → Picture → Picture
after_one β κ W rows p = rows_moved β κ W rows p

abbrev pub after_two : Border → Kernel → ℕ → ℕ → (ℕ → ℤ) → (ℕ → ℤ) → Picture → Picture
after_two β κ W H rows columns p = turned (rows_moved β κ H columns (turned (after_one β κ W rows p)))

abbrev pub straightened : Border → Kernel → ℕ → ℕ → (ℕ → ℤ) → (ℕ → ℤ) → Picture → Picture
straightened β κ W H rows columns p = rows_moved β κ W rows (after_two β κ W H rows columns p)

-- the same of a flat list: the W·H samples that the call writes
unfoldable pub straighten : Border → Kernel → ℕ → ℕ → (ℕ → ℤ) → (ℕ → ℤ) → List ℤ → List ℤ
straighten β κ W H rows columns s = pictured W H (straightened β κ W H rows columns (picture W s))
