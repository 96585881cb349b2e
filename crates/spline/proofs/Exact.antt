-- The exact coefficients of a line are not above 3 times the greatest |S|/q (`coefficients_bound`), so those of two lines differ by at most 3 times what the
-- lines differ by (`coefficients-near`), and one line has one line of coefficients (`coefficients_only`).
-- Assumes nothing.
use mathlib.Core.Path.{◌≡◌, sym, ap, ◌∙◌}
use Prim.Native.Nat.{ℕ, zero, suc, ◌+◌, ◌<◌}
use native.Mathlib.Nat.{add-suc, lt_irrefl}
use native.Mathlib.Omega.{arith}
use lib.IntN.{ℤ, pos, negsuc, neg_ℤ, nat_abs, ◌+ℤ◌, ◌-ℤ◌, ◌*ℤ◌}
use lib.Signed.{◌≤ℤ◌, ◌<ℤ◌}
use Rattle.arith.proofs.Bridge.{bridge, all2}
use Rattle.arith.proofs.Ring.{var, ⊟◌, ◌⊠◌, ring, reify, vars4, vars7, vars8}
use Rattle.arith.proofs.Cert.{linear, rounding, equal, between, above, below, ◌⊕◌, ◌⊗◌, ◌·◌, ◌⊙◌, ◌⊜◌}
use Rattle.arith.proofs.Laws.{*ℤ_non_neg, ≤ℤ_of_<ℤ, cancel, *ℤ_positive}
use Rattle.arith.specs.Sum.{max_abs}
use Rattle.arith.proofs.Sums.{max_abs_upper, max_abs_attained}
use Rattle.spline.specs.Exact.{smooth, smoothed, Coefficients, Solution}
use Rattle.lists.specs.Line.{Line, Periodic}
use Rattle.lists.proofs.Cyclic.{everywhere}
use Rattle.arith.proofs.Within.{Within, size_within}

-- from a place on
pub shifted : {S C : Line} {q Q : ℤ} (o : ℕ) → Coefficients S q C Q → Coefficients (λ k. S (o + k)) q (λ k. C (o + k)) Q
shifted o c = record { solves = λ k. rw (add-suc o (suc k), add-suc o k) (c.solves (o + k)) }

-- ---- the bound: at the greatest |y| of the C, 4·|y| is not above 6·|s| and 2·|y|; m is |y|
at_top : (x z m s M q Q : ℤ) → Within m x → Within m z → Within M s → pos 0 ≤ℤ q → pos 0 ≤ℤ Q → smooth x m z *ℤ q ≡ pos 6 *ℤ s *ℤ Q
    → (m *ℤ q) ≤ℤ (pos 3 *ℤ M *ℤ Q)
at_top = vars7 _ (simp reify (λ ρ x z s q Q e. rounding 1 (6 · (s.1 ⊗ Q) ⊕ x.0 ⊗ q ⊕ z.0 ⊗ q ⊕ below e) tt))

at_bottom : (x z m s M q Q : ℤ) → Within m x → Within m z → Within M s → pos 0 ≤ℤ q → pos 0 ≤ℤ Q → smooth x (neg_ℤ m) z *ℤ q ≡ pos 6 *ℤ s *ℤ Q
    → (m *ℤ q) ≤ℤ (pos 3 *ℤ M *ℤ Q)
at_bottom = vars7 _ (simp reify (λ ρ x z s q Q e. rounding 1 (6 · (s.0 ⊗ Q) ⊕ x.1 ⊗ q ⊕ z.1 ⊗ q ⊕ above e) tt))

peak : (x y z s M q Q : ℤ) → Within (pos (nat_abs y)) x → Within (pos (nat_abs y)) z → Within M s → pos 0 ≤ℤ q → pos 0 ≤ℤ Q
    → smooth x y z *ℤ q ≡ pos 6 *ℤ s *ℤ Q → (pos (nat_abs y) *ℤ q) ≤ℤ (pos 3 *ℤ M *ℤ Q)
peak x (pos a) z s M q Q = at_top x z (pos a) s M q Q
peak x (negsuc a) z s M q Q = at_bottom x z (pos (suc a)) s M q Q

spread : (c m q B : ℤ) → Within m c → pos 0 ≤ℤ q → (m *ℤ q) ≤ℤ B → Within B (c *ℤ q)
spread = vars4 _ (simp reify (λ ρ c q B. (linear (c.0 ⊗ q ⊕ B) tt, linear (c.1 ⊗ q ⊕ B) tt)))

-- |C|/Q is not above 3·M, M/q a bound on the |S|/q
pub coefficients_bound : {N : ℕ} {S C : Line} {q Q : ℤ} (M : ℤ) → 0 < N → Periodic N C → pos 0 ≤ℤ q → pos 0 ≤ℤ Q → Coefficients S q C Q
    → ((k : ℕ) → Within M (S k)) → (k : ℕ) → Within (pos 3 *ℤ M *ℤ Q) (C k *ℤ q)
coefficients_bound {N = zero} M h p hq h_q c b k = absurd (lt_irrefl 0 h)
coefficients_bound {N = suc n} {S} {C} {q} {Q} M h p hq h_q c b k = spread (C k) (pos m) q (pos 3 *ℤ M *ℤ Q) (low k) hq top
  where
    m : ℕ
    m = max_abs C (suc n)

    low : (k : ℕ) → Within (pos m) (C k)
    low = everywhere (Within (pos m)) h p (λ k l. size_within (C k) m (max_abs_upper C (suc n) k l))

    top : (pos m *ℤ q) ≤ℤ (pos 3 *ℤ M *ℤ Q)
    top = let (j, l, e) = max_abs_attained C (suc n) h in
        let e' : nat_abs (C (suc (j + n))) ≡ m = ap (λ i. nat_abs (C i)) (sym (add-suc j n)) ∙ ap nat_abs (p.again j) ∙ e in
        rw (← e') (peak (C (j + n)) (C (suc (j + n))) (C (suc (suc (j + n)))) (S (suc (j + n))) M q Q (rw e' (low (j + n))) (rw e' (low (suc (suc (j + n))))) (b (suc (j + n))) hq h_q (c.solves (j + n)))

-- ---- two lines: m times the difference of their coefficients are the coefficients of m times their difference
regroup : (x y z x' y' z' Q Q' : ℤ)
    → smooth (x *ℤ Q' -ℤ x' *ℤ Q) (y *ℤ Q' -ℤ y' *ℤ Q) (z *ℤ Q' -ℤ z' *ℤ Q) ≡ smooth x y z *ℤ Q' -ℤ smooth x' y' z' *ℤ Q
regroup = vars8 _ (simp reify (λ ρ. ring tt))

combine : (t t' s s' q q' Q Q' : ℤ) → t *ℤ q ≡ pos 6 *ℤ s *ℤ Q → t' *ℤ q' ≡ pos 6 *ℤ s' *ℤ Q'
    → (t *ℤ Q' -ℤ t' *ℤ Q) *ℤ (q *ℤ q') ≡ pos 6 *ℤ (s *ℤ q' -ℤ s' *ℤ q) *ℤ (Q *ℤ Q')
combine = vars8 _ (simp reify (λ ρ e e'. equal ((var 7 ⊠ var 5) ⊙ e ⊜ (⊟ (var 6 ⊠ var 4)) ⊙ e') tt))

multiple : (m x y z s q Q : ℤ) → smooth x y z *ℤ q ≡ pos 6 *ℤ s *ℤ Q → smooth (m *ℤ x) (m *ℤ y) (m *ℤ z) *ℤ q ≡ pos 6 *ℤ (m *ℤ s) *ℤ Q
multiple = vars7 _ (simp reify (λ ρ e. equal (var 0 ⊙ e) tt))

module _ {N : ℕ} {S S' C C' : Line} {q q' Q Q' : ℤ} (h : 0 < N) (hq : pos 0 <ℤ q) (hq' : pos 0 <ℤ q') (e : Solution N S q C Q) (e' : Solution N S' q' C' Q') where
  difference : (m : ℤ) → Coefficients (λ k. m *ℤ (S k *ℤ q' -ℤ S' k *ℤ q)) (q *ℤ q') (λ k. m *ℤ (C k *ℤ Q' -ℤ C' k *ℤ Q)) (Q *ℤ Q')
  difference m =
      record {
        solves = λ k. multiple m (gap k) (gap (suc k)) (gap (suc (suc k))) (S (suc k) *ℤ q' -ℤ S' (suc k) *ℤ q) (q *ℤ q') (Q *ℤ Q') (ap
            (λ t. t *ℤ (q *ℤ q')) (regroup (C k) (C (suc k)) (C (suc (suc k))) (C' k) (C' (suc k)) (C' (suc (suc k))) Q Q') ∙ combine (smoothed C k)
            (smoothed C' k) (S (suc k)) (S' (suc k)) q q' Q Q' (e.coefficients.solves k) (e'.coefficients.solves k));
      }
    where
      gap : Line
      gap k = C k *ℤ Q' -ℤ C' k *ℤ Q

  -- lines that differ by at most M/(m·q·q') have coefficients that differ by at most 3·M/(m·q·q')
  pub coefficients-near : (m M : ℤ) → ((k : ℕ) → Within M (m *ℤ (S k *ℤ q' -ℤ S' k *ℤ q))) → (k : ℕ)
      → Within (pos 3 *ℤ M *ℤ (Q *ℤ Q')) (m *ℤ (C k *ℤ Q' -ℤ C' k *ℤ Q) *ℤ (q *ℤ q'))
  coefficients-near m M near =
      coefficients_bound M h (record { again = λ k i. m *ℤ (e.periodic.again k i *ℤ Q' -ℤ e'.periodic.again k i *ℤ Q) }) (*ℤ_non_neg (≤ℤ_of_<ℤ hq)
      (≤ℤ_of_<ℤ hq')) (*ℤ_non_neg (≤ℤ_of_<ℤ e.positive) (≤ℤ_of_<ℤ e'.positive)) (difference m) near

  -- equal lines of fractions have equal coefficients
  pub coefficients_only : ((k : ℕ) → S k *ℤ q' ≡ S' k *ℤ q) → (k : ℕ) → C k *ℤ Q' ≡ C' k *ℤ Q
  coefficients_only same k =
      cancel (q *ℤ q') (C k *ℤ Q') (C' k *ℤ Q) (*ℤ_positive q q' hq hq') (none (C k *ℤ Q') (C' k *ℤ Q) (q *ℤ q') (Q *ℤ Q') (coefficients-near (pos 1)
      (pos 0) (λ i. gap (S i *ℤ q') (S' i *ℤ q) (same i)) k))
    where
      gap : (x y : ℤ) → x ≡ y → Within (pos 0) (pos 1 *ℤ (x -ℤ y))
      gap = all2 _ (simp bridge (omega arith))

      none : (x y q Q : ℤ) → Within (pos 3 *ℤ pos 0 *ℤ Q) (pos 1 *ℤ (x -ℤ y) *ℤ q) → q *ℤ x ≡ q *ℤ y
      none = vars4 _ (simp reify (λ ρ h. between (linear h.0 tt) (linear h.1 tt)))
