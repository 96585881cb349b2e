-- The lines of a flat picture: one line starts at the place `at`, and its places are `along` apart. Row y of a picture W wide starts at
-- y·W with places 1 apart, and column x at x with places W apart. Assumes nothing.
use Rattle.std.specs.Prelude.{ℕ, zero, suc, ◌+◌, ◌*◌, ◌<◌, ◌≡◌, List, get_or, set, take, drop, ℤ, pos}
use Rattle.lists.specs.Tab.{tab}

-- the sample at place k of a line
unfoldable pub placed : ℕ → ℕ → List ℤ → ℕ → ℤ
placed at along pic k = get_or pic (at + k * along) (pos 0)

-- a line of n places
unfoldable pub line_of : ℕ → ℕ → ℕ → List ℤ → List ℤ
line_of at along n pic = tab (placed at along pic) n

-- the picture with g 0 to g (n - 1) in a line
unfoldable pub put : ℕ → ℕ → (ℕ → ℤ) → ℕ → List ℤ → List ℤ
put at along g zero pic = pic
put at along g (suc k) pic = set (put at along g k pic) (at + k * along) (g k)

-- the first lines of one direction replaced, one after the other: line y, which starts at y·across, by what f makes of it
unfoldable pub passed : ℕ → ℕ → ℕ → (ℕ → List ℤ → ℕ → ℤ) → ℕ → List ℤ → List ℤ
passed n along across f zero pic = pic
passed n along across f (suc y) pic =
    put (y * across) along (f y (line_of (y * across) along n (passed n along across f y pic))) n (passed n along across f y pic)

-- the lines of one direction lie inside `size` places, and no two share a place
pub record Lines (n lines along across size : ℕ) : Type 0 where
  pub inside : (y k : ℕ) → y < lines → k < n → y * across + k * along < size
  pub apart : (y y' k k' : ℕ) → y < lines → y' < lines → k < n → k' < n → y * across + k * along ≡ y' * across + k' * along → (y ≡ y') × (k ≡ k')

-- row i of a list of rows of n
unfoldable pub row_of : ℕ → List ℤ → ℕ → List ℤ
row_of n t i = take n (drop (i * n) t)
