-- Lines. A line of N places is a function on the naturals of which only 0 to N - 1 count; `wrap N f` repeats it with period N, so that
-- its indices are taken modulo N. A list is a line by `line`. Assumes nothing.
use Rattle.std.specs.Prelude.{◌≡◌, List, ℕ, ◌+◌, ◌%◌, ℤ, pos, length, get_or}

-- a line, by its places
abbrev pub Line : Type 0
Line = ℕ → ℤ

-- a line of N places, its indices taken modulo N
unfoldable pub wrap : ℕ → Line → Line
wrap N f k = f (k % N)

-- the samples of a list
abbrev pub line : List ℤ → Line
line s k = get_or s k (pos 0)

-- a list as a line that repeats, from its sample `turn` on
abbrev pub rolled : ℕ → List ℤ → Line
rolled turn s k = wrap (length s) (line s) (k + turn)

-- a line that repeats after N places
pub record Periodic (N : ℕ) (f : Line) : Type 0 where
  pub again : (k : ℕ) → f (k + N) ≡ f k
