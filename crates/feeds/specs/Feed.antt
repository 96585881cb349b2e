-- Where a line ends. Assumes nothing.
use Rattle.std.specs.Prelude.{ℕ, suc, Bool, cond, not, List, [], ◌∷◌, eqb}

-- a byte other than a line feed
unfoldable pub in_line : ℕ → Bool
in_line b = not (eqb b 10)

-- how many bytes stand before the first line feed
unfoldable pub line_length : List ℕ → ℕ
line_length [] = 0
line_length (b ∷ bs) = cond (in_line b) (suc (line_length bs)) 0
