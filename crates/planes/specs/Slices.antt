-- Slices of one size in one list: row y, column x of slice i stands at the place i·step + (y·across + x·along). A picture of its own is one slice,
-- with along 1 and across its width. Assumes nothing.
use Rattle.std.specs.Prelude.{ℕ, ◌+◌, ◌*◌, ◌<◌, ◌≡◌, List, ℤ}
use Rattle.lists.specs.Line.{line}
use Rattle.lists.specs.Picture.{Picture, pictured}
use Rattle.planes.specs.declared.Slices.{Slices}

-- where a sample stands
abbrev pub place_in : Slices → ℕ → ℕ → ℕ → ℕ
place_in s i y x = i * s.step + (y * s.across + x * s.along)

-- slice i of a list: as a picture, and as its samples row by row
abbrev pub slice : Slices → List ℤ → ℕ → Picture
slice s list i y x = line list (place_in s i y x)

unfoldable pub slice_of : Slices → List ℤ → ℕ → List ℤ
slice_of s list i = pictured s.columns s.rows (slice s list i)

-- a statement about every place of every slice
abbrev pub Everywhere : Slices → (ℕ → ℕ → ℕ → Type 0) → Type 0
Everywhere s A = (i y x : ℕ) → i < s.slices → y < s.rows → x < s.columns → A i y x

-- p is no place of a slice
abbrev pub Beside : Slices → ℕ → Type 0
Beside s p = Everywhere s (λ i y x. p ≡ place_in s i y x → ⊥)

-- the slices lie inside `size` places, and no two of their samples share one
pub record Apart (s : Slices) (size : ℕ) : Type 0 where
  pub inside : Everywhere s (λ i y x. place_in s i y x < size)
  pub apart : (i i' y y' x x' : ℕ) → i < s.slices → i' < s.slices → y < s.rows → y' < s.rows → x < s.columns → x' < s.columns
      → place_in s i y x ≡ place_in s i' y' x' → (i ≡ i') × (y ≡ y') × (x ≡ x')

-- the slice, the row and the column that stand at the place p
pub record In (s : Slices) (p : ℕ) : Type 0 where
  pub slice : ℕ
  pub row : ℕ
  pub column : ℕ
  pub slice_in : slice < s.slices
  pub row_in : row < s.rows
  pub column_in : column < s.columns
  pub is : p ≡ place_in s slice row column

-- every one of `size` places is a place of exactly one slice
pub record Whole (s : Slices) (size : ℕ) : Type 0 where
  pub lie : Apart s size
  pub cover : (p : ℕ) → p < size → In s p

-- with rows for columns
abbrev pub transposed : Slices → Slices
transposed s = record { columns = s.rows; rows = s.columns; slices = s.slices; along = s.across; across = s.along; step = s.step }

-- with slices for rows: slice y has row y of every slice
abbrev pub exchanged : Slices → Slices
exchanged s = record { columns = s.columns; rows = s.slices; slices = s.rows; along = s.along; across = s.step; step = s.across }
