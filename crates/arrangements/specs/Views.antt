-- The eight moves by three tests: whether columns and rows are exchanged, whether the picture's columns are counted from the right, and whether its rows are
-- counted from below. The code goes by them; that they say what `moved` says is `moved-viewed` in proofs/. Assumes nothing.
use Rattle.std.specs.Prelude.{ℕ, ◌-◌, ◌%◌, Bool, true, false, ◌||◌, ◌&&◌, cond, leb, eqb}
use Rattle.arrangements.specs.Moves.{Screen}

-- place k of n, counted from the end where `back` holds
abbrev pub facing : Bool → ℕ → ℕ → ℕ
facing true n k = n - 1 - k
facing false n k = k

-- the three tests of a move
unfoldable pub swaps : ℕ → Bool
swaps m = eqb (m % 2) 1

unfoldable pub from_right : ℕ → Bool
from_right m = leb 2 m && leb m 5

unfoldable pub from_below : ℕ → Bool
from_below m = eqb (m % 4) 1 || eqb (m % 4) 2

-- the picture so seen
abbrev pub viewed : {A : Type 0} → Bool → Bool → Bool → Screen A → Screen A
viewed swap right below p =
    record {
      width = cond swap p.height p.width;
      height = cond swap p.width p.height;
      at = λ y x. p.at (facing below p.height (cond swap x y)) (facing right p.width (cond swap y x));
    }
