-- What writing a picture anew asks of the picture, of the result and of the tiles of it that go through a block. Assumes nothing.
use Rattle.std.specs.Prelude.{ℕ, ◌+◌, ◌*◌, ◌-◌, ◌≤◌, true, List, ℤ}
use Rattle.lists.specs.Picture.{Picture, picture}
use Rattle.arrangements.specs.Moves.{screen}
use Rattle.arrangements.specs.Views.{facing, viewed}
use Rattle.turns.specs.declared.View.{View}
use Rattle.turns.specs.declared.Tile.{Tile}

-- the picture so seen, with its rows as columns
abbrev pub seen : View → List ℤ → Picture
seen v s = (viewed true v.right v.below (screen v.width v.height s)).at

-- what the block holds of it: column x + j in row j, from the picture's column `first` on
abbrev pub loaded : View → ℕ → ℕ → List ℤ → Picture
loaded v x first s j i = picture v.width s (facing v.below v.height (x + j)) (first + i)

-- a picture of that size has its places, and so has the result, of so many places each
pub record Held (v : View) (picture result : ℕ) : Type 0 where
  pub wide : 1 ≤ v.width
  pub tall : 1 ≤ v.height
  pub picture_places : v.width * v.height ≤ picture
  pub result_places : v.width * v.height ≤ result

-- a tile lies inside the result, which is as wide as the picture is high, and goes through the block
pub record Tiled (v : View) (t : Tile) : Type 0 where
  pub across : t.columns ≤ 64
  pub down : t.rows ≤ 64
  pub some : 1 ≤ t.rows
  pub columns_inside : t.x + t.columns ≤ v.height
  pub rows_inside : t.y + t.rows ≤ v.width

-- the least of the picture's columns that are a tile's rows
abbrev pub least_column : View → Tile → ℕ
least_column v t = facing v.right (v.width - t.rows + 1) t.y
