-- Four weights as the code keeps them: how large their sizes are together, and the sum that they weigh. Assumes nothing.
use mathlib.Core.Path.{◌≡◌}
use Prim.Native.Nat.{ℕ, ◌+◌, ◌*◌, ◌≤◌}
use native.Mathlib.Nat.{le_refl}
use native.Mathlib.Omega.{arith}
use lib.IntN.{ℤ, pos, nat_abs, ◌+ℤ◌, ◌*ℤ◌}
use lib.Signed.{◌≤ℤ◌}
use mir.Syntax.{w64}
use mir.Val.{SFits}
use Rattle.arith.proofs.Bridge.{bridge, all4}
use Rattle.arith.proofs.Laws.{nat_abs-*ℤ-≤}
use Rattle.arith.specs.Sum.{Σ}
use Rattle.kernels.specs.declared.FourWeights.{FourWeights}
use Rattle.kernels.specs.declared.Kernel.{Kernel}
use Rattle.kernels.specs.declared.Kernel.TheVariants.{Linear, Keys, Spline}
use Rattle.kernels.specs.Kernel.{weight, weigh}
use Rattle.kernels.specs.Four.{four_weights, weighted_sum, Modest, largest, Weighable}
use Rattle.kernels.proofs.Weights.{most, weights_sizes}

-- every kernel's sizes together are at most 6·D³
pub weights_modest : (κ : Kernel) (f : ℤ) → pos 0 ≤ℤ f → f ≤ℤ pos 4096 → Modest (four_weights κ f)
unfolding Σ
weights_modest κ f low high =
    together κ (nat_abs (weight κ f 0)) (nat_abs (weight κ f 1)) (nat_abs (weight κ f 2)) (nat_abs (weight κ f 3)) (weights_sizes κ f low high)
  where
    together : (κ : Kernel) (i j k l : ℕ) → (pos 4 *ℤ (pos 0 +ℤ pos i +ℤ pos j +ℤ pos k +ℤ pos l)) ≤ℤ most κ → i + j + k + l ≤ 412316860416
    together Linear = simp bridge (omega arith)
    together Keys = simp bridge (omega arith)
    together Spline = simp bridge (omega arith)

-- the kernel's weighted sum is theirs
pub weigh_four : (κ : Kernel) (f : ℤ) (x : ℕ → ℤ) → weigh κ f x ≡ weighted_sum (four_weights κ f) (x 0) (x 1) (x 2) (x 3)
unfolding weigh weighted_sum Σ
weigh_four κ f x = none (weight κ f 0 *ℤ x 0) (weight κ f 1 *ℤ x 1) (weight κ f 2 *ℤ x 2) (weight κ f 3 *ℤ x 3)
  where
    none : (p q r s : ℤ) → pos 0 +ℤ p +ℤ q +ℤ r +ℤ s ≡ p +ℤ q +ℤ r +ℤ s
    none = all4 _ (simp bridge (omega arith))

-- each product and each partial sum fits 64 bits
pub record Fitting (p q r s : ℤ) : Type 0 where
  pub first : SFits w64 p
  pub second : SFits w64 q
  pub two : SFits w64 (p +ℤ q)
  pub third : SFits w64 r
  pub three : SFits w64 (p +ℤ q +ℤ r)
  pub fourth : SFits w64 s
  pub four : SFits w64 (p +ℤ q +ℤ r +ℤ s)
  pub size : nat_abs (p +ℤ q +ℤ r +ℤ s) ≤ 5836666354022744064

sums : (p q r s : ℤ) (i j k l : ℕ) → nat_abs p ≤ i * largest → nat_abs q ≤ j * largest → nat_abs r ≤ k * largest → nat_abs s ≤ l * largest
    → i + j + k + l ≤ 412316860416
    → SFits w64 p × SFits w64 q × SFits w64 (p +ℤ q) × SFits w64 r × SFits w64 (p +ℤ q +ℤ r) × SFits w64 s × SFits w64 (p +ℤ q +ℤ r +ℤ s)
    × (nat_abs (p +ℤ q +ℤ r +ℤ s) ≤ 5836666354022744064)
sums = all4 _ (simp bridge (omega arith))

pub products_fit : (w : FourWeights) (a b c e : ℤ) → Modest w → Weighable a b c e → Fitting (w.w0 *ℤ a) (w.w1 *ℤ b) (w.w2 *ℤ c) (w.w3 *ℤ e)
products_fit w a b c e modest x =
    let f =
    sums (w.w0 *ℤ a) (w.w1 *ℤ b) (w.w2 *ℤ c) (w.w3 *ℤ e) (nat_abs w.w0) (nat_abs w.w1) (nat_abs w.w2) (nat_abs w.w3)
    (nat_abs-*ℤ-≤ w.w0 a (le_refl _) x.first)
    (nat_abs-*ℤ-≤ w.w1 b (le_refl _) x.second)
    (nat_abs-*ℤ-≤ w.w2 c (le_refl _) x.third)
    (nat_abs-*ℤ-≤ w.w3 e (le_refl _) x.fourth)
    modest in
    record { first = f.0; second = f.1; two = f.2; third = f.3; three = f.4; fourth = f.5; four = f.6; size = f.7 }
