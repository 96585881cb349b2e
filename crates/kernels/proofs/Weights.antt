-- The weights of the three kernels: their sum, their signs, and so how far a weighted sum goes. Assumes nothing.
use mathlib.Core.Path.{◌≡◌, refl, sym, ap, ◌∙◌, subst}
use mathlib.Core.List.{[], ◌∷◌}
use Prim.Native.Nat.{ℕ, zero, suc, ◌*◌, ◌<◌}
use native.Mathlib.Nat.{one-mul, le_refl}
use native.Mathlib.Omega.{arith}
use lib.IntN.{ℤ, pos, negsuc, nat_abs, ◌+ℤ◌, ◌*ℤ◌}
use lib.Dec.{T}
use lib.Signed.{◌≤ℤ◌, ◌<ℤ◌, le_z, le_z_yes, yes_non_neg, pos-nat_abs}
use lib.ListN.{get_or}
use Rattle.arith.proofs.Bridge.{bridge, all1, all2}
use Rattle.arith.proofs.Ring.{var, lit, ◌⊞◌, ⊟◌, ◌⊠◌, ring, reify, vars1, vars4, vars6}
use Rattle.arith.proofs.Cert.{closed, linear, rounding, ◌⊕◌, ◌⊗◌, ◌·◌, square}
use Rattle.arith.proofs.Laws.{nat_abs-*ℤ}
use Rattle.arith.specs.Sum.{Σ}
use Rattle.arith.proofs.Sums.{Σ_cong, Σ-*ℤ}
use Rattle.lists.specs.Line.{Line}
use Rattle.arith.proofs.Within.{Within, size_within, Σ_within}
use Rattle.kernels.specs.declared.Kernel.{Kernel}
use Rattle.kernels.specs.declared.Kernel.TheVariants.{Linear, Keys, Spline}
use Rattle.kernels.specs.Kernel.{norm, D³, rows, evaluate, weight, weigh}

-- Σ|w| is at most gain/4 times the sum of the weights
abbrev pub gain : Kernel → ℕ
gain Linear = 4
gain Keys = 5
gain Spline = 4

-- the weights sum to n·D³
pub weights_sum : (κ : Kernel) (f : ℤ) → Σ (weight κ f) 4 ≡ pos (norm κ * D³)
unfolding Σ
weights_sum Linear = vars1 _ (simp reify (λ ρ. ring tt))
weights_sum Keys = vars1 _ (simp reify (λ ρ. ring tt))
weights_sum Spline = vars1 _ (simp reify (λ ρ. ring tt))

pub norm_nonzero : (κ : Kernel) → 0 < norm κ * D³
norm_nonzero Linear = omega arith
norm_nonzero Keys = omega arith
norm_nonzero Spline = omega arith

pub norm_positive : (κ : Kernel) → pos 0 <ℤ pos (norm κ * D³)
norm_positive κ = above (norm κ * D³) (norm_nonzero κ)
  where
    above : (n : ℕ) → 0 < n → pos 0 <ℤ pos n
    above = simp bridge (omega arith)

-- ---- signs. With g = D - f a row is a·g³ + (3a + b)·f·g² + (3a + 2b + c)·f²·g + (a + b + c + e)·f³: these four numbers' sign is its sign
row_sign : (σ a b c e f : ℤ) → pos 0 ≤ℤ (σ *ℤ a) → pos 0 ≤ℤ (σ *ℤ (pos 3 *ℤ a +ℤ b)) → pos 0 ≤ℤ (σ *ℤ (pos 3 *ℤ a +ℤ pos 2 *ℤ b +ℤ c))
    → pos 0 ≤ℤ (σ *ℤ (a +ℤ b +ℤ c +ℤ e)) → pos 0 ≤ℤ f → f ≤ℤ pos 4096 → pos 0 ≤ℤ (σ *ℤ evaluate (a ∷ b ∷ c ∷ e ∷ []) f)
row_sign = vars6 _ (simp reify (λ ρ a b c e f g. linear (a ⊗ g ⊗ g ⊗ g ⊕ b ⊗ f ⊗ g ⊗ g ⊕ c ⊗ f ⊗ f ⊗ g ⊕ e ⊗ f ⊗ f ⊗ f) tt))

abbrev Test : ℤ → ℤ → ℤ → ℤ → ℤ → Type 0
Test σ a b c e =
    (nat_abs σ ≡ 1) × T (le_z (pos 0) (σ *ℤ a)) × T (le_z (pos 0) (σ *ℤ (pos 3 *ℤ a +ℤ b))) × T (le_z (pos 0) (σ *ℤ (pos 3 *ℤ a +ℤ pos 2 *ℤ b +ℤ c))) × T
    (le_z (pos 0) (σ *ℤ (a +ℤ b +ℤ c +ℤ e)))

unfoldable pub sign : Kernel → ℕ → ℤ
sign Linear i = pos 1
sign Keys i = get_or (negsuc 0 ∷ pos 1 ∷ pos 1 ∷ negsuc 0 ∷ []) i (pos 1)
sign Spline i = pos 1

abbrev entry : Kernel → ℕ → ℕ → ℤ
entry κ i j = get_or (get_or (rows κ) i []) j (pos 0)

four : (A : ℕ → Type 0) → A 0 → A 1 → A 2 → A 3 → (i : ℕ) → i < 4 → A i
four A a b c d zero l = a
four A a b c d (suc zero) l = b
four A a b c d (suc (suc zero)) l = c
four A a b c d (suc (suc (suc zero))) l = d
four A a b c d (suc (suc (suc (suc i)))) l = absurd (no_less i l)
  where
    no_less : (i : ℕ) → suc (suc (suc (suc i))) < 4 → ⊥
    no_less i l = omega arith

tested : (κ : Kernel) (i : ℕ) → i < 4 → Test (sign κ i) (entry κ i 0) (entry κ i 1) (entry κ i 2) (entry κ i 3)
unfolding sign
tested Linear = four _ (refl, tt, tt, tt, tt) (refl, tt, tt, tt, tt) (refl, tt, tt, tt, tt) (refl, tt, tt, tt, tt)
tested Keys = four _ (refl, tt, tt, tt, tt) (refl, tt, tt, tt, tt) (refl, tt, tt, tt, tt) (refl, tt, tt, tt, tt)
tested Spline = four _ (refl, tt, tt, tt, tt) (refl, tt, tt, tt, tt) (refl, tt, tt, tt, tt) (refl, tt, tt, tt, tt)

signed_total : (κ : Kernel) (f : ℤ) → (pos 4 *ℤ Σ (λ i. sign κ i *ℤ weight κ f i) 4) ≤ℤ pos (gain κ * (norm κ * D³))
unfolding Σ sign
signed_total Linear = vars1 _ (simp reify (λ ρ. closed tt))
signed_total Keys = vars1 _ (simp reify (λ ρ. linear (8192 · square (lit 4096 ⊞ ⊟ (lit 2 ⊠ var 0))) tt))
signed_total Spline = vars1 _ (simp reify (λ ρ. closed tt))

term : (w x s M : ℤ) → Within s w → Within M x → Within (M *ℤ s) (w *ℤ x)
term = vars4 _ (simp reify (λ ρ w x. (
  rounding 1 (w.0 ⊗ x.0 ⊕ w.1 ⊗ x.1) tt,
  rounding 1 (w.0 ⊗ x.1 ⊕ w.1 ⊗ x.0) tt,
)))

scale : (W s M G : ℤ) → pos 0 ≤ℤ M → (pos 4 *ℤ s) ≤ℤ G → Within (M *ℤ s) W → Within (G *ℤ M) (pos 4 *ℤ W)
scale = vars4 _ (simp reify (λ ρ M s W. (
  linear (4 · W.0 ⊕ s ⊗ M) tt,
  linear (4 · W.1 ⊕ s ⊗ M) tt,
)))

-- the size of a weight, and gain·n·D³
abbrev pub size : Kernel → ℤ → Line
size κ f i = pos (nat_abs (weight κ f i))

abbrev pub most : Kernel → ℤ
most κ = pos (gain κ * (norm κ * D³))

module _ (κ : Kernel) (f : ℤ) (low : pos 0 ≤ℤ f) (high : f ≤ℤ pos 4096) where
  signed_weight : (i : ℕ) → i < 4 → pos 0 ≤ℤ (sign κ i *ℤ weight κ f i)
  signed_weight i l = let t = tested κ i l in row_sign (sign κ i) (entry κ i 0) (entry κ i 1) (entry κ i 2) (entry κ i 3) f (le_z_yes t.1) (le_z_yes t.2) (le_z_yes t.3) (le_z_yes t.4) low high

  -- under the linear kernel and the spline no weight is negative
  pub weight_non_neg : (i : ℕ) → i < 4 → sign κ i ≡ pos 1 → pos 0 ≤ℤ weight κ f i
  weight_non_neg i l e = once (weight κ f i) (subst (λ σ. pos 0 ≤ℤ (σ *ℤ weight κ f i)) e (signed_weight i l))
    where
      once : (w : ℤ) → pos 0 ≤ℤ (pos 1 *ℤ w) → pos 0 ≤ℤ w
      once = all1 _ (simp bridge (omega arith))

  weight_size : (i : ℕ) → i < 4 → size κ f i ≡ sign κ i *ℤ weight κ f i
  weight_size i l =
      ap pos (sym (nat_abs-*ℤ (sign κ i) (weight κ f i) ∙ ap (λ n. n * nat_abs (weight κ f i)) (tested κ i l).0 ∙ one-mul (nat_abs (weight κ f i))))
      ∙ pos-nat_abs (sign κ i *ℤ weight κ f i) (yes_non_neg (signed_weight i l))

  -- 4·Σ|w| ≤ gain·n·D³
  pub weights_sizes : (pos 4 *ℤ Σ (size κ f) 4) ≤ℤ most κ
  weights_sizes = rw (Σ_cong (size κ f) (λ i. sign κ i *ℤ weight κ f i) 4 weight_size) (signed_total κ f)

  -- so places within ±M have a weighted sum within gain/4·n·D³·M
  module _ (x : Line) (M : ℤ) (each : (i : ℕ) → Within M (x i)) where
    non_neg : pos 0 ≤ℤ M
    non_neg = between M (x 0) (each 0)
      where
        between : (M x : ℤ) → Within M x → pos 0 ≤ℤ M
        between = all2 _ (simp bridge (omega arith))

    product : (i : ℕ) → Within (M *ℤ size κ f i) (weight κ f i *ℤ x i)
    product i = term (weight κ f i) (x i) (size κ f i) M (size_within (weight κ f i) (nat_abs (weight κ f i)) (le_refl (nat_abs (weight κ f i)))) (each i)

    pub weigh_within : Within (most κ *ℤ M) (pos 4 *ℤ weigh κ f x)
    unfolding weigh
    weigh_within =
        scale (Σ (λ i. weight κ f i *ℤ x i) 4) (Σ (size κ f) 4) M (most κ) non_neg weights_sizes
        (subst (λ B. Within B (Σ (λ i. weight κ f i *ℤ x i) 4)) (Σ-*ℤ M (size κ f) 4)
        (Σ_within (λ i. M *ℤ size κ f i) (λ i. weight κ f i *ℤ x i) 4 (λ i k. product i)))
