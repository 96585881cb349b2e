-- A number added to every sample of a line is added to its exact coefficients (`solution_raised`), and so 16 times the number to its rounded ones, to within 8;
-- where two lines differ by the number to within m, to within 48·m + 8 (`coefficient-raised`). Assumes nothing.
use mathlib.Core.Path.{◌≡◌}
use Prim.Native.Nat.{ℕ, suc, ◌%◌, ◌<◌}
use native.Mathlib.Nat.{mod-lt}
use lib.IntN.{ℤ, pos, ◌+ℤ◌, ◌-ℤ◌, ◌*ℤ◌}
use lib.Signed.{◌≤ℤ◌, lt_z_yes}
use Rattle.arith.proofs.Ring.{reify, vars4, vars7}
use Rattle.arith.proofs.Cert.{linear, equal, ◌⊕◌, ◌⊗◌, ◌·◌}
use Rattle.arith.proofs.Laws.{≤ℤ_of_<ℤ, *ℤ_positive}
use Rattle.arith.proofs.Within.{Within, cancel_within}
use Rattle.lists.specs.Line.{Line, wrap}
use Rattle.lists.proofs.Cyclic.{wrap_periodic}
use Rattle.spline.specs.Coefficients.{coefficient}
use Rattle.spline.specs.Exact.{smooth, Solution, tolerance}
use Rattle.spline.proofs.Exact.{coefficients-near}
use Rattle.spline.proofs.Existence.{exact, denominator, exact_solution}
use Rattle.spline.proofs.Near.{coefficient_within}

-- c is c·q over q, and c·Q over Q
pub solution_raised : {N : ℕ} {S C : Line} {q Q : ℤ} (c : ℤ) → Solution N S q C Q → Solution N (λ k. S k +ℤ c *ℤ q) q (λ k. C k +ℤ c *ℤ Q) Q
solution_raised {N} {S} {C} {q} {Q} c e =
    record {
      positive = e.positive;
      periodic = record { again = λ k i. e.periodic.again k i +ℤ c *ℤ Q };
      coefficients = record { solves = λ k. added (C k) (C (suc k)) (C (suc (suc k))) (S (suc k)) c q Q (e.coefficients.solves k) };
    }
  where
    added : (x y z s c q Q : ℤ) → smooth x y z *ℤ q ≡ pos 6 *ℤ s *ℤ Q
        → smooth (x +ℤ c *ℤ Q) (y +ℤ c *ℤ Q) (z +ℤ c *ℤ Q) *ℤ q ≡ pos 6 *ℤ (s +ℤ c *ℤ q) *ℤ Q
    added = vars7 _ (simp reify (λ ρ e. equal e tt))

-- the rounded coefficients of x and y are within 4 of 16 times the exact ones, C and C' over Q, and these differ by c to within 3·m
apart : (v w c C C' Q m : ℤ) → pos 0 ≤ℤ Q → Within (pos tolerance *ℤ Q) (v *ℤ Q -ℤ pos 16 *ℤ C) → Within (pos tolerance *ℤ Q) (w *ℤ Q -ℤ pos 16 *ℤ C')
    → Within (pos 3 *ℤ m *ℤ (Q *ℤ Q)) (pos 1 *ℤ (C' *ℤ Q -ℤ (C +ℤ c *ℤ Q) *ℤ Q) *ℤ (pos 1 *ℤ pos 1))
    → Within (Q *ℤ Q *ℤ (pos 48 *ℤ m +ℤ pos 8)) (Q *ℤ Q *ℤ (w -ℤ (v +ℤ pos 16 *ℤ c)))
apart = vars7 _ (simp reify (λ ρ Q v w near. (
  linear (Q ⊗ w.0 ⊕ Q ⊗ v.1 ⊕ 16 · near.0) tt,
  linear (Q ⊗ w.1 ⊕ Q ⊗ v.0 ⊕ 16 · near.1) tt,
)))

module _ {N : ℕ} {x y : Line} (c m : ℤ) (h : 0 < N) (small : (k : ℕ) → k < N → Within (pos 294912) (x k)) (small' : (k : ℕ) → k < N → Within (pos 294912) (y k))
    (each : (k : ℕ) → k < N → Within m (y k -ℤ (x k +ℤ c))) where
  pub coefficient-raised : (k : ℕ) → k < N → Within (pos 48 *ℤ m +ℤ pos 8) (coefficient N y k -ℤ (coefficient N x k +ℤ pos 16 *ℤ c))
  unfolding wrap
  coefficient-raised k l =
      cancel_within (Q *ℤ Q) (pos 48 *ℤ m +ℤ pos 8) (coefficient N y k -ℤ (coefficient N x k +ℤ pos 16 *ℤ c)) (*ℤ_positive Q Q a.positive a.positive)
      (apart (coefficient N x k) (coefficient N y k) c (exact N (wrap N x) k) (exact N (wrap N y) k) Q m (≤ℤ_of_<ℤ a.positive) (coefficient_within h small a k l)
      (coefficient_within h small' b k l) (coefficients-near h (lt_z_yes tt) (lt_z_yes tt) b (solution_raised c a) (pos 1) m wrapped k))
    where
      Q : ℤ
      Q = denominator N *ℤ pos 1

      a : Solution N (wrap N x) (pos 1) (exact N (wrap N x)) Q
      a = exact_solution (pos 1) h (lt_z_yes tt) (wrap_periodic N x)

      b : Solution N (wrap N y) (pos 1) (exact N (wrap N y)) Q
      b = exact_solution (pos 1) h (lt_z_yes tt) (wrap_periodic N y)

      over_one : (m c x y : ℤ) → Within m (y -ℤ (x +ℤ c)) → Within m (pos 1 *ℤ (y *ℤ pos 1 -ℤ (x +ℤ c *ℤ pos 1) *ℤ pos 1))
      over_one = vars4 _ (simp reify (λ ρ h. (linear h.0 tt, linear h.1 tt)))

      wrapped : (i : ℕ) → Within m (pos 1 *ℤ (wrap N y i *ℤ pos 1 -ℤ (wrap N x i +ℤ c *ℤ pos 1) *ℤ pos 1))
      wrapped i = over_one m c (x (i % N)) (y (i % N)) (each (i % N) (mod-lt i h))
