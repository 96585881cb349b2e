-- One line moved, rounded against exact. The samples x are within e/m of the fractions S/q, and then the moved samples are within
-- 1/2 + e/m, 1/2 + 5/4·e/m or 3/4 + 3·e/m of the line moved exactly, by kernel: `line-near`.
-- Assumes nothing.
use mathlib.Core.Path.{◌≡◌, sym, ap, ◌∙◌, subst, subst₂}
use Prim.Native.Nat.{ℕ, zero, suc, ◌+◌, ◌*◌, ◌%◌, ◌<◌}
use native.Mathlib.Nat.{mod-lt, mul-pos, one-mul}
use native.Mathlib.Omega.{arith}
use lib.IntN.{ℤ, pos, neg_ℤ, ◌+ℤ◌, ◌-ℤ◌, ◌*ℤ◌}
use lib.Signed.{◌≤ℤ◌, ◌<ℤ◌, lt_z_yes}
use Rattle.arith.proofs.Bridge.{bridge, all1}
use Rattle.arith.proofs.Ring.{var, lit, nlit, ◌⊠◌, ring, reify, vars2, vars4, vars5, vars7, vars8}
use Rattle.arith.proofs.Cert.{linear, rounding, equal, above, below, ◌⊕◌, ◌⊗◌, ◌·◌, ◌⊙◌}
use Rattle.arith.proofs.Laws.{≤ℤ_of_<ℤ, *ℤ_assoc, pos-≤ℤ}
use Rattle.arith.specs.Whole.{round}
use Rattle.arith.proofs.Round.{remainder_is}
use Rattle.arith.specs.Sum.{Σ}
use Rattle.lists.specs.Line.{Line, wrap, Periodic}
use Rattle.lists.proofs.Cyclic.{wrap_periodic, wrap_own, everywhere}
use Rattle.arith.proofs.Within.{Within, round_within, cancel_within}
use Rattle.spline.specs.Coefficients.{coefficient}
use Rattle.kernels.specs.declared.Kernel.{Kernel}
use Rattle.kernels.specs.declared.Kernel.TheVariants.{Linear, Keys, Spline}
use Rattle.kernels.specs.Kernel.{D³, norm, weight, weigh}
use Rattle.arith.specs.Move.{D, fraction}
use Rattle.kernels.proofs.Weights.{gain, most, norm_nonzero, norm_positive, weigh_within}
use Rattle.moves.specs.Move.{first, mixed, source, moved}
use Rattle.spline.specs.Exact.{Solution}
use Rattle.spline.proofs.Exact.{coefficients-near}
use Rattle.spline.proofs.Existence.{exact, denominator, exact_solution}
use Rattle.spline.proofs.Near.{coefficient-near}
use Rattle.moves.proofs.Mixed.{mixed_times}
use Rattle.exact.specs.ExactLine.{ExactLine}
use Rattle.arith.proofs.Move.{fraction_low, fraction_high}

-- the samples x are within e/m of the fractions S/q
pub record Near (N : ℕ) (m e : ℤ) (x S : Line) (q : ℤ) : Type 0 where
  pub place : (k : ℕ) → k < N → Within (e *ℤ q) (m *ℤ (x k *ℤ q -ℤ S k))

-- whole samples are within 0/1 of themselves
pub itself : (N : ℕ) (x : Line) → Near N (pos 1) (pos 0) x x (pos 1)
itself N x = record { place = λ k l. none (x k) }
  where
    none : (x : ℤ) → Within (pos 0 *ℤ pos 1) (pos 1 *ℤ (x *ℤ pos 1 -ℤ x))
    none = all1 _ (simp bridge (omega arith))

-- e/m becomes (base·m + growth·e)/(4·m)
abbrev pub base : Kernel → ℕ
base Linear = 2
base Keys = 2
base Spline = 3

abbrev pub growth : Kernel → ℕ
growth Linear = 4
growth Keys = 5
growth Spline = 12

-- ---- weighed sums: of a difference, and rounded
weigh_difference : (w x y : Line) (m q : ℤ) (n : ℕ)
    → Σ (λ i. w i *ℤ (m *ℤ (x i *ℤ q -ℤ y i))) n ≡ m *ℤ (q *ℤ Σ (λ i. w i *ℤ x i) n -ℤ Σ (λ i. w i *ℤ y i) n)
unfolding Σ
weigh_difference w x y m q zero = none m q
  where
    none : (m q : ℤ) → pos 0 ≡ m *ℤ (q *ℤ pos 0 -ℤ pos 0)
    none = vars2 _ (simp reify (λ ρ. ring tt))
weigh_difference w x y m q (suc n) =
    ap (λ t. t +ℤ w n *ℤ (m *ℤ (x n *ℤ q -ℤ y n))) (weigh_difference w x y m q n) ∙ one_more (Σ (λ i. w i *ℤ x i) n) (Σ (λ i. w i *ℤ y i) n) (w n)
    (x n) (y n) m q
  where
    one_more : (X Y w x y m q : ℤ) → m *ℤ (q *ℤ X -ℤ Y) +ℤ w *ℤ (m *ℤ (x *ℤ q -ℤ y)) ≡ m *ℤ (q *ℤ (X +ℤ w *ℤ x) -ℤ (Y +ℤ w *ℤ y))
    one_more = vars7 _ (simp reify (λ ρ. ring tt))

-- out = [W/t] and z/Z = Y/(t·q): their difference, times t·q·Z, is the rounding's and the places' errors
split : (o z Z W Y q t : ℤ) → z *ℤ (t *ℤ q) ≡ Y *ℤ Z → t *ℤ q *ℤ (o *ℤ Z -ℤ z) ≡ q *ℤ Z *ℤ (t *ℤ o -ℤ W) +ℤ Z *ℤ (q *ℤ W -ℤ Y)
split = vars7 _ (simp reify (λ ρ e. equal (nlit 0 ⊙ e) tt))

errors : (a r δ Z q m t B : ℤ) → pos 0 ≤ℤ Z → pos 0 ≤ℤ q → pos 0 ≤ℤ m → t *ℤ q *ℤ a ≡ q *ℤ Z *ℤ r +ℤ Z *ℤ δ → Within t (pos 2 *ℤ r)
    → Within (B *ℤ q) (pos 4 *ℤ (m *ℤ δ)) → Within (q *ℤ (pos 2 *ℤ m *ℤ t *ℤ Z +ℤ B *ℤ Z)) (q *ℤ (pos 4 *ℤ m *ℤ t *ℤ a))
errors = vars8 _ (simp reify (λ ρ Z q m e r δ. (
  linear (2 · (m ⊗ q ⊗ Z ⊗ r.0) ⊕ Z ⊗ δ.0 ⊕ above ((lit 4 ⊠ var 5) ⊙ e)) tt,
  linear (2 · (m ⊗ q ⊗ Z ⊗ r.1) ⊕ Z ⊗ δ.1 ⊕ below ((lit 4 ⊠ var 5) ⊙ e)) tt,
)))

share : (a m n r g e Z : ℤ) → Within (pos 2 *ℤ m *ℤ (r *ℤ n) *ℤ Z +ℤ g *ℤ n *ℤ e *ℤ Z) (pos 4 *ℤ m *ℤ (r *ℤ n) *ℤ a)
    → Within (n *ℤ ((pos 2 *ℤ m *ℤ r +ℤ g *ℤ e) *ℤ Z)) (n *ℤ (pos 4 *ℤ m *ℤ r *ℤ a))
share = vars7 _ (simp reify (λ ρ h. (linear h.0 tt, linear h.1 tt)))

-- places x within e/m of y/q, and z/Z the weighted sum of the y/q over r·n·D³: 4·m·r·|[Σwx/(r·n·D³)] - z/Z| ≤ 2·m·r + gain·e
mixed-near : (κ : Kernel) (N : ℕ) (d : ℤ) (x y : Line) (q m e z Z : ℤ) (r k : ℕ) → 0 < r → pos 0 <ℤ q → pos 0 ≤ℤ Z → pos 0 ≤ℤ m
    → ((i : ℕ) → Within (e *ℤ q) (m *ℤ (x i *ℤ q -ℤ y i))) → z *ℤ (pos (r * (norm κ * D³)) *ℤ q) ≡ mixed κ N d y k *ℤ Z
    → Within ((pos 2 *ℤ m *ℤ pos r +ℤ pos (gain κ) *ℤ e) *ℤ Z) (pos 4 *ℤ m *ℤ pos r *ℤ (round (mixed κ N d x k) (r * (norm κ * D³)) *ℤ Z -ℤ z))
unfolding mixed weigh
mixed-near κ N d x y q m e z Z r k hr hq hZ hm near exact =
    cancel_within (pos n) ((pos 2 *ℤ m *ℤ pos r +ℤ pos (gain κ) *ℤ e) *ℤ Z) (pos 4 *ℤ m *ℤ pos r *ℤ a) (norm_positive κ) (share a m (pos n) (pos r)
    (pos (gain κ)) e Z by_t)
  where
    n : ℕ
    n = norm κ * D³

    t : ℕ
    t = r * n

    at : ℕ → ℕ
    at i = first N d + k + i

    W : ℤ
    W = mixed κ N d x k

    Y : ℤ
    Y = mixed κ N d y k

    a : ℤ
    a = round W t *ℤ Z -ℤ z

    sums : Within (most κ *ℤ e *ℤ q) (pos 4 *ℤ (m *ℤ (q *ℤ W -ℤ Y)))
    sums =
        subst₂ (λ B s. Within B (pos 4 *ℤ s)) (sym (*ℤ_assoc (most κ) e q)) (weigh_difference (weight κ (pos (fraction d))) (λ i. x (at i)) (λ i. y
        (at i)) m q 4) (weigh_within κ (pos (fraction d)) (fraction_low d) (fraction_high d) (λ i. m *ℤ (x (at i) *ℤ q -ℤ y (at i))) (e *ℤ q)
        (λ i. near (at i)))

    by_q : Within (q *ℤ (pos 2 *ℤ m *ℤ pos t *ℤ Z +ℤ most κ *ℤ e *ℤ Z)) (q *ℤ (pos 4 *ℤ m *ℤ pos t *ℤ a))
    by_q =
        errors a (pos t *ℤ round W t -ℤ W) (q *ℤ W -ℤ Y) Z q m (pos t) (most κ *ℤ e) hZ (≤ℤ_of_<ℤ hq) hm (split (round W t) z Z W Y q (pos t) exact)
        (round_within W t (mul-pos hr (norm_nonzero κ))) sums

    by_t : Within (pos 2 *ℤ m *ℤ pos t *ℤ Z +ℤ most κ *ℤ e *ℤ Z) (pos 4 *ℤ m *ℤ pos t *ℤ a)
    by_t = cancel_within q (pos 2 *ℤ m *ℤ pos t *ℤ Z +ℤ most κ *ℤ e *ℤ Z) (pos 4 *ℤ m *ℤ pos t *ℤ a) hq by_q

-- ---- the spline: rounded coefficients of x against exact ones, Y/R, of S/q
both : (c C Y Q R m e : ℤ) → pos 0 ≤ℤ Q → pos 0 ≤ℤ R → pos 0 ≤ℤ m → Within (pos 37 *ℤ Q) (pos 11 *ℤ (c *ℤ Q -ℤ pos 16 *ℤ C))
    → Within (pos 3 *ℤ e *ℤ (Q *ℤ R)) (m *ℤ (C *ℤ R -ℤ Y *ℤ Q))
    → Within (Q *ℤ ((pos 4 *ℤ m +ℤ pos 48 *ℤ e) *ℤ R)) (Q *ℤ (m *ℤ (c *ℤ R -ℤ pos 16 *ℤ Y)))
both = vars7 _ (simp reify (λ ρ Q R m near far. (
  rounding 10 (m ⊗ R ⊗ near.0 ⊕ 7 · (m ⊗ R ⊗ Q) ⊕ 176 · far.0) tt,
  rounding 10 (m ⊗ R ⊗ near.1 ⊕ 7 · (m ⊗ R ⊗ Q) ⊕ 176 · far.1) tt,
)))

module _ {N : ℕ} {x S : Line} {q : ℤ} (m e : ℤ) (h : 0 < N) (small : (k : ℕ) → k < N → Within (pos 294912) (x k)) (hq : pos 0 <ℤ q) (hm : pos 0 ≤ℤ m) (near : Near N m e x S q) where
  places-near : (i : ℕ) → Within (e *ℤ q) (m *ℤ (wrap N x i *ℤ q -ℤ wrap N S i))
  unfolding wrap
  places-near i = near.place (i % N) (mod-lt i h)

  coefficients_of_near : {Y : Line} {R : ℤ} → Solution N (wrap N S) q Y R → (i : ℕ)
      → Within ((pos 4 *ℤ m +ℤ pos 48 *ℤ e) *ℤ R) (m *ℤ (wrap N (coefficient N x) i *ℤ R -ℤ pos 16 *ℤ Y i))
  coefficients_of_near {Y} {R} b = everywhere (Within ((pos 4 *ℤ m +ℤ pos 48 *ℤ e) *ℤ R)) h periodic (λ k l. rw (wrap_own N (coefficient N x) k l) (own k l))
    where
      C : Line
      C = exact N (wrap N x)

      Q : ℤ
      Q = denominator N *ℤ pos 1

      a : Solution N (wrap N x) (pos 1) C Q
      a = exact_solution (pos 1) h (lt_z_yes tt) (wrap_periodic N x)

      plain : (x s m e q : ℤ) → Within (e *ℤ q) (m *ℤ (x *ℤ q -ℤ s)) → Within (e *ℤ q) (m *ℤ (x *ℤ q -ℤ s *ℤ pos 1))
      plain = vars5 _ (simp reify (λ ρ h. (linear h.0 tt, linear h.1 tt)))

      turn : (m g e q P : ℤ) → Within (pos 3 *ℤ (e *ℤ q) *ℤ P) (m *ℤ g *ℤ (pos 1 *ℤ q)) → Within (q *ℤ (pos 3 *ℤ e *ℤ P)) (q *ℤ (m *ℤ g))
      turn = vars5 _ (simp reify (λ ρ h. (linear h.0 tt, linear h.1 tt)))

      far : (k : ℕ) → Within (pos 3 *ℤ e *ℤ (Q *ℤ R)) (m *ℤ (C k *ℤ R -ℤ Y k *ℤ Q))
      far k =
          cancel_within q (pos 3 *ℤ e *ℤ (Q *ℤ R)) (m *ℤ (C k *ℤ R -ℤ Y k *ℤ Q)) hq (turn m (C k *ℤ R -ℤ Y k *ℤ Q) e q (Q *ℤ R) (coefficients-near h
          (lt_z_yes tt) hq a b m (e *ℤ q) (λ i. plain (wrap N x i) (wrap N S i) m e q (places-near i)) k))

      own : (k : ℕ) → k < N → Within ((pos 4 *ℤ m +ℤ pos 48 *ℤ e) *ℤ R) (m *ℤ (coefficient N x k *ℤ R -ℤ pos 16 *ℤ Y k))
      own k l =
          cancel_within Q ((pos 4 *ℤ m +ℤ pos 48 *ℤ e) *ℤ R) (m *ℤ (coefficient N x k *ℤ R -ℤ pos 16 *ℤ Y k)) a.positive (both (coefficient N x k)
          (C k) (Y k) Q R m e (≤ℤ_of_<ℤ a.positive) (≤ℤ_of_<ℤ b.positive) hm (coefficient-near h small a k l) (far k))

      periodic : Periodic N (λ k. m *ℤ (wrap N (coefficient N x) k *ℤ R -ℤ pos 16 *ℤ Y k))
      periodic = record { again = λ k i. m *ℤ ((wrap_periodic N (coefficient N x)).again k i *ℤ R -ℤ pos 16 *ℤ b.periodic.again k i) }

  direct : (κ : Kernel) (d z Z : ℤ) {Y : Line} {R : ℤ} (k : ℕ) → pos 0 <ℤ Z → (Y ≡ wrap N S) × (R ≡ q)
      → z *ℤ (pos (norm κ * D³) *ℤ R) ≡ mixed κ N d Y k *ℤ Z
      → Within ((pos 2 *ℤ m +ℤ pos (gain κ) *ℤ e) *ℤ Z) (pos 4 *ℤ m *ℤ (round (mixed κ N d (wrap N x) k) (norm κ * D³) *ℤ Z -ℤ z))
  direct κ d z Z k hZ is sum =
      once m e (pos (gain κ)) Z (out (norm κ * D³) *ℤ Z -ℤ z) (subst (λ n. Within ((pos 2 *ℤ m *ℤ pos 1 +ℤ pos (gain κ) *ℤ e) *ℤ Z)
      (pos 4 *ℤ m *ℤ pos 1 *ℤ (out n *ℤ Z -ℤ z))) (one-mul (norm κ * D³)) (mixed-near κ N d (wrap N x) (wrap N S) q m e z Z 1 k (omega arith) hq
      (≤ℤ_of_<ℤ hZ) hm places-near (rw one-mul own)))
    where
      out : ℕ → ℤ
      out n = round (mixed κ N d (wrap N x) k) n

      own : z *ℤ (pos (norm κ * D³) *ℤ q) ≡ mixed κ N d (wrap N S) k *ℤ Z
      own = subst₂ (λ Y R. z *ℤ (pos (norm κ * D³) *ℤ R) ≡ mixed κ N d Y k *ℤ Z) is.0 is.1 sum

      once : (m e g Z a : ℤ) → Within ((pos 2 *ℤ m *ℤ pos 1 +ℤ g *ℤ e) *ℤ Z) (pos 4 *ℤ m *ℤ pos 1 *ℤ a)
          → Within ((pos 2 *ℤ m +ℤ g *ℤ e) *ℤ Z) (pos 4 *ℤ m *ℤ a)
      once = vars5 _ (simp reify (λ ρ h. (linear h.0 tt, linear h.1 tt)))

  -- by kernel, the line moved exactly being E/Z
  pub line-near : (κ : Kernel) (d : ℤ) {E : Line} {Z : ℤ} → pos 0 <ℤ Z → ExactLine κ N d S q E Z
      → Near N (pos 4 *ℤ m) (pos (base κ) *ℤ m +ℤ pos (growth κ) *ℤ e) (moved κ N d x) E Z
  unfolding moved source
  line-near Linear d {E} {Z} hZ a = record { place = λ k l. direct Linear d (E k) Z k hZ a.is (a.sums k l) }
  line-near Keys d {E} {Z} hZ a = record { place = λ k l. direct Keys d (E k) Z k hZ a.is (a.sums k l) }
  line-near Spline d {E} {Z} hZ a =
      record {
        place = λ k l. sixteenth m e Z (moved Spline N d x k *ℤ Z -ℤ E k) (mixed-near Spline N d (wrap N (coefficient N x))
            (λ i. pos 16 *ℤ a.weighed i) a.over m (pos 4 *ℤ m +ℤ pos 48 *ℤ e) (E k) Z 16 k (omega arith) a.is.positive (≤ℤ_of_<ℤ hZ) hm
            (coefficients_of_near a.is) (own k l));
      }
    where
      times : (z R w Z : ℤ) → z *ℤ (pos (norm Spline * D³) *ℤ R) ≡ w *ℤ Z → z *ℤ (pos (16 * (norm Spline * D³)) *ℤ R) ≡ pos 16 *ℤ w *ℤ Z
      times = vars4 _ (simp reify (λ ρ e. equal (lit 16 ⊙ e) tt))

      own : (k : ℕ) → k < N → E k *ℤ (pos (16 * (norm Spline * D³)) *ℤ a.over) ≡ mixed Spline N d (λ i. pos 16 *ℤ a.weighed i) k *ℤ Z
      own k l = times (E k) a.over (mixed Spline N d a.weighed k) Z (a.sums k l) ∙ ap (λ t. t *ℤ Z) (sym (mixed_times Spline N d (pos 16) a.weighed k))

      sixteenth : (m e Z a : ℤ) → Within ((pos 2 *ℤ m *ℤ pos 16 +ℤ pos 4 *ℤ (pos 4 *ℤ m +ℤ pos 48 *ℤ e)) *ℤ Z) (pos 4 *ℤ m *ℤ pos 16 *ℤ a)
          → Within ((pos 3 *ℤ m +ℤ pos 12 *ℤ e) *ℤ Z) (pos 4 *ℤ m *ℤ a)
      sixteenth = vars4 _ (simp reify (λ ρ h. (rounding 15 h.0 tt, rounding 15 h.1 tt)))
