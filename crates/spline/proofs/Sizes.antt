-- How large u, v and the rounded coefficients come, for samples within ±294912: what storage they want. Assumes nothing.
use Prim.Native.Nat.{ℕ, zero, suc, ◌+◌, ◌*◌, ◌-◌, ◌<◌}
use native.Mathlib.Omega.{arith}
use lib.IntN.{ℤ, pos, ◌+ℤ◌, ◌-ℤ◌, ◌*ℤ◌}
use lib.Signed.{◌≤ℤ◌, le_z_yes, lt_z_yes}
use Rattle.arith.proofs.Bridge.{bridge, all1}
use Rattle.arith.proofs.Ring.{reify, vars4, vars5}
use Rattle.arith.proofs.Cert.{linear, rounding, ◌⊕◌, ◌·◌}
use Rattle.arith.proofs.Laws.{≤ℤ_of_<ℤ}
use Rattle.arith.specs.Whole.{round}
use Rattle.lists.specs.Line.{Line, wrap}
use Rattle.lists.proofs.Cyclic.{wrap_periodic, wrap_every}
use Rattle.arith.proofs.Within.{Within, widen, round_within, cancel_within}
use Rattle.spline.specs.Coefficients.{P, T, run_in, filter, run, u, down, back, v, coefficient}
use Rattle.spline.specs.Exact.{Solution}
use Rattle.spline.proofs.Exact.{coefficients_bound}
use Rattle.spline.proofs.Existence.{exact, denominator, exact_solution}
use Rattle.spline.proofs.Near.{coefficient-near}

-- inputs within ±X keep the filter within ±B, where 22·X + 11 ≤ 16·B
step : (x f R X B : ℤ) → Within X x → Within B f → Within (pos T) (pos 2 *ℤ (pos T *ℤ R -ℤ pos P *ℤ f)) → pos 0 ≤ℤ B
    → (pos 22 *ℤ X +ℤ pos 11) ≤ℤ (pos 16 *ℤ B) → Within B (x -ℤ R)
step = vars5 _ (simp reify (λ ρ x f r B room. (
  rounding (22 * T - 1) ((22 * T) · x.0 ⊕ 11 · r.1 ⊕ (22 * P) · f.1 ⊕ (6 * T - 22 * P) · B ⊕ T · room) tt,
  rounding (22 * T - 1) ((22 * T) · x.1 ⊕ 11 · r.0 ⊕ (22 * P) · f.0 ⊕ (6 * T - 22 * P) · B ⊕ T · room) tt,
)))

filter_size : (x : Line) (X B : ℤ) → ((j : ℕ) → Within X (x j)) → pos 0 ≤ℤ B → (pos 22 *ℤ X +ℤ pos 11) ≤ℤ (pos 16 *ℤ B) → (j : ℕ)
    → Within B (filter x j)
unfolding filter
filter_size x X B hx hB room zero = start B hB
  where
    start : (B : ℤ) → pos 0 ≤ℤ B → Within B (pos 0)
    start = all1 _ (simp bridge (omega arith))
filter_size x X B hx hB room (suc j) =
    step (x j) (filter x j) (round (pos P *ℤ filter x j) T) X B (hx j) (filter_size x X B hx hB room j) (round_within (pos P *ℤ filter x j) T
    (omega arith)) hB room

pub down_size : {N : ℕ} {f : Line} → 0 < N → ((k : ℕ) → k < N → Within (pos 6488065) (f k)) → (j : ℕ) → Within (pos 9142272) (down N f j)
unfolding down
down_size {N} {f} h small =
    filter_size (λ j. wrap N f (N + run_in - suc j)) (pos 6488065) (pos 9142272) (λ j. wrap_every (Within (pos 6488065)) h small (N + run_in - suc j)) (le_z_yes tt)
    (le_z_yes tt)

-- ---- the coefficients of samples within ±M, M ≤ 294912: 11·|c| ≤ 528·M + 37
total : (c x Q M : ℤ) → Within (pos 37 *ℤ Q) (pos 11 *ℤ (c *ℤ Q -ℤ pos 16 *ℤ x)) → Within (pos 3 *ℤ M *ℤ Q) (x *ℤ pos 1)
    → Within (Q *ℤ (pos 528 *ℤ M +ℤ pos 37)) (Q *ℤ (pos 11 *ℤ c))
total = vars4 _ (simp reify (λ ρ near x. (
  linear (near.0 ⊕ 176 · x.0) tt,
  linear (near.1 ⊕ 176 · x.1) tt,
)))

pub coefficient_reach : {N : ℕ} {s : Line} (M : ℤ) → 0 < N → M ≤ℤ pos 294912 → ((k : ℕ) → k < N → Within M (s k)) → (k : ℕ) → k < N
    → Within (pos 528 *ℤ M +ℤ pos 37) (pos 11 *ℤ coefficient N s k)
coefficient_reach {N} {s} M h small each k l =
    cancel_within Q (pos 528 *ℤ M +ℤ pos 37) (pos 11 *ℤ coefficient N s k) e.positive (total (coefficient N s k) (exact N (wrap N s) k) Q M
    (coefficient-near h (λ k l. widen M (pos 294912) (s k) (each k l) small) e k l) (coefficients_bound M h e.periodic (le_z_yes tt)
    (≤ℤ_of_<ℤ e.positive) e.coefficients (wrap_every (Within M) h each) k))
  where
    Q : ℤ
    Q = denominator N *ℤ pos 1

    e : Solution N (wrap N s) (pos 1) (exact N (wrap N s)) Q
    e = exact_solution (pos 1) h (lt_z_yes tt) (wrap_periodic N s)

-- ---- at the greatest samples, ±294912
module _ {N : ℕ} {s : Line} (h : 0 < N) (small : (k : ℕ) → k < N → Within (pos 294912) (s k)) where
  -- 22·294912 + 1
  pub run_size : (j : ℕ) → Within (pos 6488065) (run N s j)
  unfolding run
  run_size =
      filter_size (λ j. pos 16 *ℤ wrap N s (run_in * (N - 1) + j)) (pos 4718592) (pos 6488065) (λ j. sixteen (wrap N s (run_in * (N - 1) + j)) (wrap_every
      (Within (pos 294912)) h small (run_in * (N - 1) + j))) (le_z_yes tt) (le_z_yes tt)
    where
      sixteen : (x : ℤ) → Within (pos 294912) x → Within (pos 4718592) (pos 16 *ℤ x)
      sixteen = all1 _ (simp bridge (omega arith))

  pub u_size : (k : ℕ) → Within (pos 6488065) (u N s k)
  unfolding u
  u_size k = run_size (suc run_in + k)

  -- 31·294912
  pub v_size : (k : ℕ) → Within (pos 9142272) (v N s k)
  unfolding v back
  v_size k = down_size h (λ k l. u_size k) (N + run_in - k)

  -- 48·294912 + 3
  pub coefficient_size : (k : ℕ) → k < N → Within (pos 14155779) (coefficient N s k)
  coefficient_size k l = down (coefficient N s k) (coefficient_reach (pos 294912) h (le_z_yes tt) small k l)
    where
      down : (c : ℤ) → Within (pos 155713573) (pos 11 *ℤ c) → Within (pos 14155779) c
      down = all1 _ (simp bridge (omega arith))
