-- Pictures. A picture is a function of the row and the column, of which the rows below H and the columns below W count; a list of W·H samples, row by
-- row, is one by `picture`. Assumes nothing.
use Rattle.std.specs.Prelude.{List, ℕ, ◌+◌, ◌*◌, ◌/◌, ◌%◌, ◌<◌, ℤ}
use Rattle.lists.specs.Tab.{tab}
use Rattle.lists.specs.Line.{Line, line}

abbrev pub Picture : Type 0
Picture = ℕ → Line

-- the sample of row y and column x of a flat list
unfoldable pub picture : ℕ → List ℤ → Picture
picture W s y x = line s (y * W + x)

-- the flat list of a picture
unfoldable pub pictured : ℕ → ℕ → Picture → List ℤ
pictured W H p = tab (λ i. p (i / W) (i % W)) (W * H)

-- a statement about every place of a picture
abbrev pub Places : ℕ → ℕ → (ℕ → ℕ → Type 0) → Type 0
Places W H A = (y x : ℕ) → y < H → x < W → A y x
