-- Places counted from either end. Assumes nothing.
use Prim.Native.Nat.{ℕ, ◌+◌, ◌-◌, ◌≤◌, ◌<◌}
use mathlib.Core.Path.{◌≡◌, refl, ap, ◌∙◌}
use mathlib.Core.Bool.{Bool, true, false, not}
use native.Mathlib.Omega.{arith}
use Rattle.arrangements.specs.Views.{facing}

pub facing_below : (b : Bool) (n k : ℕ) → k < n → facing b n k < n
facing_below true n k l = omega arith
facing_below false n k l = l

-- one of two counts, but not both
abbrev pub differ : Bool → Bool → Bool
differ true b = not b
differ false b = b

-- counted twice
pub facing_twice : (a b : Bool) (n k : ℕ) → k < n → facing a n (facing b n k) ≡ facing (differ a b) n k
facing_twice true true n k l = omega arith
facing_twice true false n k l = refl
facing_twice false true n k l = refl
facing_twice false false n k l = refl

-- a run of m places from place x on: its least place, and place j of it
pub facing-run : (b : Bool) (n m x j : ℕ) → x + m ≤ n → j < m → facing b (n - m + 1) x + facing b m j ≡ facing b n (x + j)
facing-run true n m x j h l = ap (λ (i : ℕ). i + (m - 1 - j)) start ∙ sum
  where
    start : n - m + 1 - 1 - x ≡ n - (x + m)
    start = omega arith

    sum : n - (x + m) + (m - 1 - j) ≡ n - 1 - (x + j)
    sum = omega arith
facing-run false n m x j h l = refl
