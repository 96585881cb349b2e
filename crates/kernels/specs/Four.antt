-- A line's four weights as the code keeps them, and the sum that they weigh. Assumes nothing.
use Rattle.std.specs.Prelude.{ℕ, ◌+◌, ◌≤◌, List, [], ℤ, nat_abs, ◌+ℤ◌, ◌*ℤ◌, get_or}
use Rattle.kernels.specs.declared.FourWeights.{FourWeights}
use Rattle.kernels.specs.declared.Kernel.{Kernel}
use Rattle.kernels.specs.Kernel.{rows, evaluate}

-- the weights that four rows give at f
abbrev pub four_of : List (List ℤ) → ℤ → FourWeights
four_of r f = record { w0 = evaluate (get_or r 0 []) f; w1 = evaluate (get_or r 1 []) f; w2 = evaluate (get_or r 2 []) f; w3 = evaluate (get_or r 3 []) f }

abbrev pub four_weights : Kernel → ℤ → FourWeights
four_weights κ f = four_of (rows κ) f

unfoldable pub weighted_sum : FourWeights → ℤ → ℤ → ℤ → ℤ → ℤ
weighted_sum w a b c e = w.w0 *ℤ a +ℤ w.w1 *ℤ b +ℤ w.w2 *ℤ c +ℤ w.w3 *ℤ e

-- the sizes together are at most 6·D³, as every kernel's are
abbrev pub Modest : FourWeights → Type 0
Modest w = nat_abs w.w0 + nat_abs w.w1 + nat_abs w.w2 + nat_abs w.w3 ≤ 412316860416

-- what four such weights may weigh: the coefficients of samples within ±294,912 are this large, and the samples smaller
abbrev pub largest : ℕ
largest = 14155779

pub record Weighable (a b c e : ℤ) : Type 0 where
  pub first : nat_abs a ≤ largest
  pub second : nat_abs b ≤ largest
  pub third : nat_abs c ≤ largest
  pub fourth : nat_abs e ≤ largest
