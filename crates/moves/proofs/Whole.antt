-- A line that moves by whole places is its own places, exactly, under every kernel: at f = 0 the weights take one place, and the spline's three
-- neighbouring coefficients give back the sample, since each is within 4 of 16 times the exact one. Assumes nothing.
use mathlib.Core.Path.{◌≡◌, ap, ◌∙◌}
use Prim.Native.Nat.{ℕ, ◌+◌, ◌*◌, ◌<◌}
use native.Mathlib.Omega.{arith}
use lib.Dec.{lit<}
use lib.IntN.{ℤ, pos, ◌+ℤ◌, ◌-ℤ◌, ◌*ℤ◌}
use lib.Signed.{◌≤ℤ◌, ◌<ℤ◌, lt_z_yes}
use Rattle.arith.specs.Whole.{round}
use Rattle.arith.specs.Sum.{Σ}
use Rattle.arith.specs.Move.{fraction}
use Rattle.arith.proofs.Bridge.{bridge, all1, all2}
use Rattle.arith.proofs.Ring.{lit, ring, reify, vars4, vars8}
use Rattle.arith.proofs.Cert.{linear, above, below, ◌⊕◌, ◌·◌, ◌⊙◌}
use Rattle.arith.proofs.Round.{round_only, round-scale, round_exact}
use Rattle.arith.proofs.Within.{Within, cancel_within}
use Rattle.lists.specs.Line.{Line, wrap}
use Rattle.lists.proofs.Cyclic.{wrap_periodic, wrap_own, everywhere}
use Rattle.kernels.specs.declared.Kernel.{Kernel}
use Rattle.kernels.specs.declared.Kernel.TheVariants.{Linear, Keys, Spline}
use Rattle.kernels.specs.Kernel.{D³, weigh}
use Rattle.spline.specs.Coefficients.{coefficient}
use Rattle.spline.specs.Exact.{Solution}
use Rattle.spline.proofs.Existence.{exact, denominator, exact_solution}
use Rattle.spline.proofs.Exact.{shifted}
use Rattle.spline.proofs.Near.{coefficient_within}
use Rattle.moves.specs.Move.{first, mixed, source, divisor, moved}

-- ---- the weighted sum at f = 0
unfoldable pub at_zero : (κ : Kernel) (y : Line) → ℤ
at_zero Linear y = y 1
at_zero Keys y = pos 2 *ℤ y 1
at_zero Spline y = y 0 +ℤ pos 4 *ℤ y 1 +ℤ y 2

pub weigh_at_zero : (κ : Kernel) (y : Line) → weigh κ (pos 0) y ≡ pos D³ *ℤ at_zero κ y
unfolding weigh Σ at_zero
weigh_at_zero Linear y = sum (y 0) (y 1) (y 2) (y 3)
  where
    sum : (a b c d : ℤ) → pos 0 +ℤ pos 0 *ℤ a +ℤ pos D³ *ℤ b +ℤ pos 0 *ℤ c +ℤ pos 0 *ℤ d ≡ pos D³ *ℤ b
    sum = vars4 _ (simp reify (λ ρ. ring tt))
weigh_at_zero Keys y = sum (y 0) (y 1) (y 2) (y 3)
  where
    sum : (a b c d : ℤ) → pos 0 +ℤ pos 0 *ℤ a +ℤ pos (2 * D³) *ℤ b +ℤ pos 0 *ℤ c +ℤ pos 0 *ℤ d ≡ pos D³ *ℤ (pos 2 *ℤ b)
    sum = vars4 _ (simp reify (λ ρ. ring tt))
weigh_at_zero Spline y = sum (y 0) (y 1) (y 2) (y 3)
  where
    sum : (a b c d : ℤ) → pos 0 +ℤ pos D³ *ℤ a +ℤ pos (4 * D³) *ℤ b +ℤ pos D³ *ℤ c +ℤ pos 0 *ℤ d ≡ pos D³ *ℤ (a +ℤ pos 4 *ℤ b +ℤ c)
    sum = vars4 _ (simp reify (λ ρ. ring tt))

module _ {N : ℕ} {x : Line} (h : 0 < N) (small : (k : ℕ) → k < N → Within (pos 294912) (x k)) where
  -- ---- three neighbouring coefficients, from place o on, are within 24 of 96 times the sample in their middle
  abbrev C : Line
  C = exact N (wrap N x)

  abbrev Q : ℤ
  Q = denominator N *ℤ pos 1

  e : Solution N (wrap N x) (pos 1) C Q
  e = exact_solution (pos 1) h (lt_z_yes tt) (wrap_periodic N x)

  near : (k : ℕ) → Within (pos 4 *ℤ Q) (wrap N (coefficient N x) k *ℤ Q -ℤ pos 16 *ℤ C k)
  near =
      everywhere (Within (pos 4 *ℤ Q)) h
      (record { again = λ k i. (wrap_periodic N (coefficient N x)).again k i *ℤ Q -ℤ pos 16 *ℤ e.periodic.again k i })
      (λ k l. rw (wrap_own N (coefficient N x) k l) (coefficient_within h small e k l))

  three : (o : ℕ) → Within (pos 24) (at_zero Spline (λ i. wrap N (coefficient N x) (o + i)) -ℤ pos 96 *ℤ wrap N x (o + 1))
  unfolding at_zero
  three o =
      cancel_within Q (pos 24) (c 0 +ℤ pos 4 *ℤ c 1 +ℤ c 2 -ℤ pos 96 *ℤ wrap N x (o + 1)) e.positive
      (sum (c 0) (c 1) (c 2) (C (o + 0)) (C (o + 1)) (C (o + 2)) (wrap N x (o + 1)) Q (near (o + 0)) (near (o + 1)) (near (o + 2))
      ((shifted o e.coefficients).solves 0))
    where
      c : Line
      c i = wrap N (coefficient N x) (o + i)

      sum : (a b c A B D s Q : ℤ) → Within (pos 4 *ℤ Q) (a *ℤ Q -ℤ pos 16 *ℤ A) → Within (pos 4 *ℤ Q) (b *ℤ Q -ℤ pos 16 *ℤ B)
          → Within (pos 4 *ℤ Q) (c *ℤ Q -ℤ pos 16 *ℤ D) → (A +ℤ pos 4 *ℤ B +ℤ D) *ℤ pos 1 ≡ pos 6 *ℤ s *ℤ Q
          → Within (Q *ℤ pos 24) (Q *ℤ (a +ℤ pos 4 *ℤ b +ℤ c -ℤ pos 96 *ℤ s))
      sum =
          vars8 _
          (simp reify
          (λ ρ i j k e. (
            linear (i.0 ⊕ 4 · j.0 ⊕ k.0 ⊕ above (lit 16 ⊙ e)) tt,
            linear (i.1 ⊕ 4 · j.1 ⊕ k.1 ⊕ below (lit 16 ⊙ e)) tt,
          )))

  -- so their rounded quotient is the sample
  rounded : (t s : ℤ) → Within (pos 24) (t -ℤ pos 96 *ℤ s) → round t 96 ≡ s
  rounded t s w = round_only t s 96 (lit< tt) (record { lower = low t s w; upper = high t s w })
    where
      low : (t s : ℤ) → Within (pos 24) (t -ℤ pos 96 *ℤ s) → (pos 192 *ℤ s) ≤ℤ (pos 2 *ℤ t +ℤ pos 96)
      low = all2 _ (simp bridge (omega arith))

      high : (t s : ℤ) → Within (pos 24) (t -ℤ pos 96 *ℤ s) → (pos 2 *ℤ t +ℤ pos 96) <ℤ (pos 192 *ℤ s +ℤ pos 192)
      high = all2 _ (simp bridge (omega arith))

  -- ---- the rounded sum at f = 0, by kernel
  taken : (κ : Kernel) (o : ℕ) → round (pos D³ *ℤ at_zero κ (λ i. wrap N (source κ N x) (o + i))) (divisor κ) ≡ wrap N x (o + 1)
  unfolding at_zero source
  taken Linear o = round_exact (wrap N x (o + 1)) 68719476736 (lit< tt)
  taken Keys o = ap (λ t. round t 137438953472) (twice (wrap N x (o + 1))) ∙ round_exact (wrap N x (o + 1)) 137438953472 (lit< tt)
    where
      twice : (s : ℤ) → pos 68719476736 *ℤ (pos 2 *ℤ s) ≡ pos 137438953472 *ℤ s
      twice = all1 _ (simp bridge (omega arith))
  taken Spline o =
      round-scale 68719476736 (at_zero Spline (λ i. wrap N (coefficient N x) (o + i))) 96 (lit< tt) (lit< tt)
      ∙ rounded (at_zero Spline (λ i. wrap N (coefficient N x) (o + i))) (wrap N x (o + 1)) (three o)

  pub moved-whole : (κ : Kernel) (d : ℤ) → fraction d ≡ 0 → (k : ℕ) → moved κ N d x k ≡ wrap N x (first N d + k + 1)
  unfolding moved mixed
  moved-whole κ d whole k =
      ap (λ p. round p (divisor κ)) (ap (λ f. weigh κ (pos f) y) whole ∙ weigh_at_zero κ y) ∙ taken κ (first N d + k)
    where
      y : Line
      y i = wrap N (source κ N x) (first N d + k + i)
