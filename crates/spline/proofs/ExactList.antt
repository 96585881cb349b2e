-- The exact coefficients of a line of samples as lists, as a contract cites them: there are some, over a number that depends on the
-- length alone, all are the same fractions, and each rounded coefficient is within 4 of 16 times the exact one. Assumes nothing.
use mathlib.Core.Path.{◌≡◌, refl, sym, ◌∙◌, subst, fun_ext}
use mathlib.Core.List.{List}
use Prim.Native.Nat.{ℕ, ◌*◌, ◌≤◌, ◌<◌}
use native.Mathlib.Omega.{arith}
use lib.IntN.{ℤ, pos, nat_abs, ◌-ℤ◌, ◌*ℤ◌}
use lib.Signed.{◌<ℤ◌, lt_z_yes}
use lib.ListN.{length}
use Rattle.arith.proofs.Bridge.{bridge, all2}
use Rattle.lists.specs.Line.{Line, wrap, line}
use Rattle.lists.proofs.Cyclic.{wrap_own, wrap_periodic, periodic_wrap, wrap-tab}
use Rattle.lists.specs.Tab.{tab}
use Rattle.lists.proofs.Tab.{tab-length}
use Rattle.arith.proofs.Within.{Within, size_within}
use Rattle.spline.specs.Coefficients.{coefficient}
use Rattle.spline.specs.Exact.{Solution, tolerance}
use Rattle.spline.proofs.Exact.{coefficients_only}
use Rattle.spline.proofs.Existence.{exact, denominator, exact_solution}
use Rattle.spline.proofs.Near.{coefficient_within}

-- C over Q, cyclically: C(k-1) + 4·C(k) + C(k+1) = 6·s(k)·Q
pub record ExactCoefficients (s C : List ℤ) (Q : ℤ) : Type 0 where
  pub places : length C ≡ length s
  pub solution : Solution (length s) (wrap (length s) (line s)) (pos 1) (wrap (length s) (line C)) Q

module _ (s : List ℤ) (h : 0 < length s) where
  pub exact_coefficients : ExactCoefficients s (tab (exact (length s) (wrap (length s) (line s))) (length s)) (denominator (length s) *ℤ pos 1)
  exact_coefficients =
      record {
        places = tab-length C (length s);
        solution = subst (λ c. Solution (length s) (wrap (length s) (line s)) (pos 1) c
            (denominator (length s) *ℤ pos 1)) (sym (fun_ext same)) solution;
      }
    where
      C : Line
      C = exact (length s) (wrap (length s) (line s))

      solution : Solution (length s) (wrap (length s) (line s)) (pos 1) C (denominator (length s) *ℤ pos 1)
      solution = exact_solution (pos 1) h (lt_z_yes tt) (wrap_periodic (length s) (line s))

      same : (k : ℕ) → wrap (length s) (line (tab C (length s))) k ≡ C k
      same k = wrap-tab (length s) C k h ∙ sym (periodic_wrap solution.periodic k)

  pub exact_coefficients_only : {C C' : List ℤ} {Q Q' : ℤ} → ExactCoefficients s C Q → ExactCoefficients s C' Q' → (k : ℕ) → k < length s
      → line C k *ℤ Q' ≡ line C' k *ℤ Q
  exact_coefficients_only {C} {C'} {Q} {Q'} a a' k l =
      rw (← wrap_own (length s) (line C) k l, ← wrap_own (length s) (line C') k l) (coefficients_only h (lt_z_yes tt) (lt_z_yes tt) a.solution
      a'.solution (λ i. refl) k)

  -- each c(k) is within 4 of 16 times the exact one
  pub coefficient_error : {C : List ℤ} {Q : ℤ} → ((k : ℕ) → k < length s → nat_abs (line s k) ≤ 294912) → ExactCoefficients s C Q → (k : ℕ)
      → k < length s → nat_abs (coefficient (length s) (line s) k *ℤ Q -ℤ pos 16 *ℤ line C k) ≤ 4 * nat_abs Q
  coefficient_error {C} {Q} small a k l =
      size (coefficient (length s) (line s) k *ℤ Q -ℤ pos 16 *ℤ line C k) Q a.solution.positive (subst (λ c. Within (pos tolerance *ℤ Q)
      (coefficient (length s) (line s) k *ℤ Q -ℤ pos 16 *ℤ c)) (wrap_own (length s) (line C) k l) (coefficient_within h
      (λ i m. size_within (line s i) 294912 (small i m)) a.solution k l))
    where
      size : (x Q : ℤ) → pos 0 <ℤ Q → Within (pos tolerance *ℤ Q) x → nat_abs x ≤ 4 * nat_abs Q
      size = all2 _ (simp bridge (omega arith))
