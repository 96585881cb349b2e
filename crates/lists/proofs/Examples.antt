-- Worked examples: a strided line and a table's rule. Filling loops are those of `copy` (from the front) and `load_line` (a line).
-- Assumes nothing.
use Prim.Native.Nat.{ℕ, ◌*◌, ◌<◌}
use mathlib.Core.Path.{◌≡◌}
use mathlib.Core.Bool.{Bool}
use mathlib.Core.List.{List, [], ◌∷◌}
use native.Mathlib.Omega.{arith}
use lib.Dec.{eqb, eqb→eq}
use lib.IntN.{ℤ}
use lib.ListN.{length, get_or}
use Rattle.lists.specs.Tab.{tab}
use Rattle.lists.specs.Grid.{line_of, put}
use Rattle.lists.proofs.Grid.{column_lines, line-back, line_kept}
use Rattle.lists.proofs.Table.{at}

-- ---- a strided line: a column that was put is read back, and every other column is as it was
column_back : (w h : ℕ) (v : ℕ → ℤ) (pic : List ℤ) → length pic ≡ h * w → (x : ℕ) → x < w → line_of (x * 1) w h (put (x * 1) w v h pic) ≡ tab v h
column_back w h v pic e x l = line-back (column_lines w h (h * w) (omega arith)) v pic e x l

column_kept : (w h : ℕ) (v : ℕ → ℤ) (pic : List ℤ) → length pic ≡ h * w → (x z : ℕ) → x < w → z < w → (z ≡ x → ⊥)
    → line_of (z * 1) w h (put (x * 1) w v h pic) ≡ line_of (z * 1) w h pic
column_kept w h v pic e x z l m other = line_kept (column_lines w h (h * w) (omega arith)) v pic e x l z m other

-- ---- a table's rule: `tt` has the test computed at every entry, and `at` hands it over at one
squares : List ℕ
squares = 0 ∷ 1 ∷ 4 ∷ 9 ∷ 16 ∷ 25 ∷ []

square : ℕ → ℕ → Bool
square k x = eqb x (k * k)

each_square : (k : ℕ) → k < 6 → get_or squares k 0 ≡ k * k
unfolding squares square
each_square k h = eqb→eq (get_or squares k 0) (k * k) (at square squares tt k h)
