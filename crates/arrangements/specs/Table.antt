-- "Two moves in a row equal the one move named by a table of eight by eight, row the first move and column the second; every move has an inverse."
-- Assumes nothing.
use Rattle.std.specs.Prelude.{ℕ, List, [], ◌∷◌, get_or}

abbrev pub table : List (List ℕ)
table =
    (0 ∷ 1 ∷ 2 ∷ 3 ∷ 4 ∷ 5 ∷ 6 ∷ 7 ∷ [])
    ∷ (1 ∷ 2 ∷ 3 ∷ 0 ∷ 7 ∷ 4 ∷ 5 ∷ 6 ∷ [])
    ∷ (2 ∷ 3 ∷ 0 ∷ 1 ∷ 6 ∷ 7 ∷ 4 ∷ 5 ∷ [])
    ∷ (3 ∷ 0 ∷ 1 ∷ 2 ∷ 5 ∷ 6 ∷ 7 ∷ 4 ∷ [])
    ∷ (4 ∷ 5 ∷ 6 ∷ 7 ∷ 0 ∷ 1 ∷ 2 ∷ 3 ∷ [])
    ∷ (5 ∷ 6 ∷ 7 ∷ 4 ∷ 3 ∷ 0 ∷ 1 ∷ 2 ∷ [])
    ∷ (6 ∷ 7 ∷ 4 ∷ 5 ∷ 2 ∷ 3 ∷ 0 ∷ 1 ∷ [])
    ∷ (7 ∷ 4 ∷ 5 ∷ 6 ∷ 1 ∷ 2 ∷ 3 ∷ 0 ∷ [])
    ∷ []

-- the one move that two in a row are
unfoldable pub entry : ℕ → ℕ → ℕ
entry first second = get_or (get_or table first []) second 0

-- the move that undoes each
abbrev pub inverses : List ℕ
inverses = 0 ∷ 3 ∷ 2 ∷ 1 ∷ 4 ∷ 5 ∷ 6 ∷ 7 ∷ []

unfoldable pub inverse_of : ℕ → ℕ
inverse_of m = get_or inverses m 0
