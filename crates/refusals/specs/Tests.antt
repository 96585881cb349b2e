-- The tests behind the numbers that several calls share, each true where its number applies. Assumes nothing.
use Rattle.std.specs.Prelude.{ℕ, zero, suc, ◌*◌, ◌/◌, ◌%◌, ◌≤◌, ◌<◌, Bool, ◌||◌, cond, List, ltb, eqb, Option, Some, None, ℤ, pos, nat_abs, ◌≤ℤ◌}
use Rattle.lists.specs.Line.{line}
use Rattle.refusals.specs.declared.Place.{Place}

-- 1: a side of 0 or over `most`
abbrev pub side_beyond : ℕ → ℕ → Bool
side_beyond most n = eqb n 0 || ltb most n

-- a width, height or line length of 0 or over 1,024
unfoldable pub bad_side : ℕ → Bool
bad_side n = side_beyond 1024 n

-- 1, of a picture
unfoldable pub bad_size : ℕ → ℕ → Bool
bad_size width height = bad_side width || bad_side height

-- 2: a lent buffer of `have` places, under the `need` places that the call uses
unfoldable pub short : ℕ → ℕ → Bool
short have need = ltb have need

-- 5: a kernel number other than 0, 1 and 2
unfoldable pub bad_kernel : ℕ → Bool
bad_kernel kernel = ltb 2 kernel

-- 4 and 6: a number beyond ±limit
unfoldable pub beyond_of : ℕ → ℤ → Bool
beyond_of limit v = ltb limit (nat_abs v)

-- the first of n places, from place k on, at which a test holds, told by its row and its column
unfoldable pub first_from : (ℕ → Bool) → (ℕ → ℕ) → (ℕ → ℕ) → ℕ → ℕ → Option Place
first_from test row column k zero = None
first_from test row column k (suc n) = cond (test k) (Some (record { row = row k; column = column k })) (first_from test row column (suc k) n)

-- 6: the first sample of a picture beyond ±limit in row order, with its row and column; a line is a picture of height 1
unfoldable pub first_bad : ℕ → ℕ → ℕ → List ℤ → Option Place
first_bad limit width height picture = first_from (λ k. beyond_of limit (line picture k)) (λ k. k / width) (λ k. k % width) 0 (height * width)

-- the first n samples are within ±limit, as an accepted picture's are; past the end of a list there stands no sample, read as 0
abbrev pub AllWithin : ℕ → ℕ → List ℤ → Type 0
AllWithin limit n s = (i : ℕ) → i < n → nat_abs (line s i) ≤ limit

-- the limits that the range tests take
pub record Limit (limit : ℤ) : Type 0 where
  pub from : pos 0 ≤ℤ limit
  pub to : limit ≤ℤ pos 4194304
