-- The rounded coefficients are within 37/11 of 16 times the exact ones, for samples within ±294912 and every length.
-- With p = P/T, v*(k) = 16·c*(k)/(6·p) and u*(k) = v*(k) + p·v*(k+1) the exact coefficients c* = C/Q follow the filters' own
-- rules but for (p² - 4·p + 1)·v*(k), below 1/60. `u* C` and `v* C` are K times those, K = 3·P·T·Q.
-- Assumes nothing.
use mathlib.Core.Path.{◌≡◌, refl, sym, ap, ◌∙◌, subst, subst₃, fun_ext}
use Prim.Native.Nat.{ℕ, suc, ◌+◌, ◌*◌, ◌-◌, ◌^◌, ◌≤◌, ◌<◌}
use native.Mathlib.Nat.{le_refl, suc-add}
use native.Mathlib.Omega.{arith}
use lib.IntN.{ℤ, pos, ◌+ℤ◌, ◌-ℤ◌, ◌*ℤ◌}
use lib.Signed.{◌≤ℤ◌, le_z_yes}
use Rattle.arith.proofs.Bridge.{bridge, all2}
use Rattle.arith.proofs.Ring.{lit, reify, vars1, vars2, vars3, vars4, vars5}
use Rattle.arith.proofs.Cert.{linear, rounding, above, below, ◌⊕◌, ◌⊗◌, ◌·◌, ◌⊙◌}
use Rattle.arith.proofs.Laws.{≤ℤ_of_<ℤ}
use Rattle.lists.specs.Line.{Line, wrap, Periodic}
use Rattle.lists.proofs.Cyclic.{wrap_periodic, wrap_own, wrap_every, periods, everywhere}
use Rattle.arith.proofs.Within.{Within, round_within}
use Rattle.spline.specs.Coefficients.{P, T, run_in, filter, run, u, down, back, v, scaled, coefficient}
use Rattle.spline.specs.Exact.{smooth, Coefficients, Solution, tolerance}
use Rattle.spline.proofs.Exact.{shifted, coefficients_bound}
use Rattle.spline.proofs.Settle.{Follows, filter-near}

abbrev pub K : ℤ → ℤ
K Q = pos (3 * P * T) *ℤ Q

abbrev pub u* : Line → Line
u* C k = pos (8 * T) *ℤ (pos T *ℤ C k +ℤ pos P *ℤ C (suc k))

abbrev pub v* : Line → Line
v* C k = pos (8 * T * T) *ℤ C k

-- |C|/Q ≤ 3·294912
abbrev pub Small : ℤ → ℤ → Type 0
Small Q x = Within (pos 884736 *ℤ Q) x

-- ---- upward: the exact rule of u, where 1412236479 is 4·P·T - P² - T²
u*_rule : (x y z s Q : ℤ) → pos 0 ≤ℤ Q → Small Q y → smooth x y z *ℤ pos 1 ≡ pos 6 *ℤ s *ℤ Q
    → Within (pos 1 *ℤ K Q *ℤ pos T) (pos 60 *ℤ (pos T *ℤ (pos (8 * T) *ℤ (pos T *ℤ y +ℤ pos P *ℤ z)) +ℤ pos P *ℤ (pos (8 * T) *ℤ (pos T *ℤ x +ℤ pos P *ℤ y)) -ℤ K Q *ℤ pos T *ℤ (pos 16 *ℤ s)))
u*_rule = vars5 _ (simp reify (λ ρ Q y e. (
  linear ((480 * T * 1412236479) · y.1 ⊕ (3 * P * T * T - 480 * T * 1412236479 * 884736) · Q ⊕ above (lit (480 * T * T * P) ⊙ e)) tt,
  linear ((480 * T * 1412236479) · y.0 ⊕ (3 * P * T * T - 480 * T * 1412236479 * 884736) · Q ⊕ below (lit (480 * T * T * P) ⊙ e)) tt,
)))

u*_start : (x y Q : ℤ) → Small Q x → Small Q y → Within (pos (8 * T * (T + P) * 884736) *ℤ Q) (pos (8 * T) *ℤ (pos T *ℤ x +ℤ pos P *ℤ y))
u*_start = vars3 _ (simp reify (λ ρ x y. (
  linear ((8 * T * T) · x.0 ⊕ (8 * T * P) · y.0) tt,
  linear ((8 * T * T) · x.1 ⊕ (8 * T * P) · y.1) tt,
)))

u*_forgets : (Q : ℤ) → pos 0 ≤ℤ Q → (pos 480 *ℤ (pos (8 * T * (T + P) * 884736) *ℤ Q)) ≤ℤ (pos 19 *ℤ K Q *ℤ pos (3 ^ suc run_in))
u*_forgets = vars1 _ (simp reify (λ ρ Q. linear ((19 * (3 * P * T) * 3 ^ suc run_in - 480 * (8 * T * (T + P) * 884736)) · Q) tt))

K_non_neg : (Q : ℤ) → pos 0 ≤ℤ Q → pos 0 ≤ℤ K Q
K_non_neg = vars1 _ (simp reify (λ ρ Q. linear ((3 * P * T) · Q) tt))

upward : {S C : Line} {Q : ℤ} → pos 0 ≤ℤ Q → Coefficients S (pos 1) C Q → ((k : ℕ) → Small Q (C k)) → (j : ℕ) → suc run_in ≤ j
    → Within (pos 3 *ℤ K Q) (pos 4 *ℤ (K Q *ℤ filter (λ j. pos 16 *ℤ S (suc j)) j -ℤ u* C j))
upward {S} {C} {Q} h_q c small j long = filter-near 3 19 refl (u*_forgets Q h_q) follows j long (le_refl j)
  where
    follows : Follows (λ j. pos 16 *ℤ S (suc j)) (u* C) (K Q) (pos (8 * T * (T + P) * 884736) *ℤ Q) 1 j
    follows = record {
      non_neg = K_non_neg Q h_q;
      start = u*_start (C 0) (C 1) Q (small 0) (small 1);
      rule = λ j l. u*_rule (C j) (C (suc j)) (C (suc (suc j))) (S (suc j)) Q h_q (small (suc j)) (c.solves j);
    }

-- ---- downward
v*_rule : (w x y Q : ℤ) → Within (pos 3 *ℤ K Q) (pos 4 *ℤ (K Q *ℤ w -ℤ pos (8 * T) *ℤ (pos T *ℤ x +ℤ pos P *ℤ y)))
    → Within (pos 45 *ℤ K Q *ℤ pos T) (pos 60 *ℤ (pos T *ℤ (pos (8 * T * T) *ℤ x) +ℤ pos P *ℤ (pos (8 * T * T) *ℤ y) -ℤ K Q *ℤ pos T *ℤ w))
v*_rule = vars4 _ (simp reify (λ ρ near. (
  linear ((15 * T) · near.1) tt,
  linear ((15 * T) · near.0) tt,
)))

v*_start : (x Q : ℤ) → Small Q x → Within (pos (8 * T * T * 884736) *ℤ Q) (pos (8 * T * T) *ℤ x)
v*_start = vars2 _ (simp reify (λ ρ x. (
  linear ((8 * T * T) · x.0) tt,
  linear ((8 * T * T) · x.1) tt,
)))

v*_forgets : (Q : ℤ) → pos 0 ≤ℤ Q → (pos 480 *ℤ (pos (8 * T * T * 884736) *ℤ Q)) ≤ℤ (pos 15 *ℤ K Q *ℤ pos (3 ^ suc run_in))
v*_forgets = vars1 _ (simp reify (λ ρ Q. linear ((15 * (3 * P * T) * 3 ^ suc run_in - 480 * (8 * T * T * 884736)) · Q) tt))

downward : {C : Line} {Q : ℤ} (w : Line) (N : ℕ) → pos 0 ≤ℤ Q → ((k : ℕ) → Small Q (C k))
    → ((k : ℕ) → Within (pos 3 *ℤ K Q) (pos 4 *ℤ (K Q *ℤ w k -ℤ u* C k))) → (j : ℕ) → suc run_in ≤ j → j ≤ N + run_in
    → Within (pos 7 *ℤ K Q) (pos 4 *ℤ (K Q *ℤ filter (λ j. w (N + run_in - suc j)) j -ℤ v* C (N + run_in - j)))
downward {C} {Q} w N h_q small near = filter-near 7 15 refl (v*_forgets Q h_q) follows
  where
    next : (j : ℕ) → j < N + run_in → suc (N + run_in - suc j) ≡ N + run_in - j
    next j l = omega arith

    follows : Follows (λ j. w (N + run_in - suc j)) (λ j. v* C (N + run_in - j)) (K Q) (pos (8 * T * T * 884736) *ℤ Q) 45 (N + run_in)
    follows = record {
      non_neg = K_non_neg Q h_q;
      start = v*_start (C (N + run_in - 0)) Q (small (N + run_in - 0));
      rule =
          λ j l.
          let k = N + run_in - suc j in
          subst (λ i. Within (pos 45 *ℤ K Q *ℤ pos T) (pos 60 *ℤ (pos T *ℤ v* C k +ℤ pos P *ℤ v* C i -ℤ K Q *ℤ pos T *ℤ w k))) (next j l)
          (v*_rule (w k) (C k) (C (suc k)) Q (near k));
    }

-- ---- the theorem
last : (c v x Q : ℤ) → pos 0 ≤ℤ Q → Within (pos T) (pos 2 *ℤ (pos T *ℤ c -ℤ pos (6 * P) *ℤ v))
    → Within (pos 7 *ℤ K Q) (pos 4 *ℤ (K Q *ℤ v -ℤ pos (8 * T * T) *ℤ x)) → Within (pos 37 *ℤ Q) (pos 11 *ℤ (c *ℤ Q -ℤ pos 16 *ℤ x))
last = vars4 _ (simp reify (λ ρ Q r near. (
  rounding (2 * T * T - 1) ((11 * T) · (Q ⊗ r.0) ⊕ 11 · near.0 ⊕ (63 * T * T - 231 * P * T) · Q) tt,
  rounding (2 * T * T - 1) ((11 * T) · (Q ⊗ r.1) ⊕ 11 · near.1 ⊕ (63 * T * T - 231 * P * T) · Q) tt,
)))

-- a line s of N samples within ±294912, and any exact coefficients C over Q
module _ {N : ℕ} {s C : Line} {Q : ℤ} (h : 0 < N) (small : (k : ℕ) → k < N → Within (pos 294912) (s k)) (e : Solution N (wrap N s) (pos 1) C Q) where
  h_q : pos 0 ≤ℤ Q
  h_q = ≤ℤ_of_<ℤ e.positive

  exact_small : (k : ℕ) → Small Q (C k)
  exact_small k = turn (C k) Q (coefficients_bound (pos 294912) h e.periodic (le_z_yes tt) h_q e.coefficients (wrap_every (Within (pos 294912)) h small) k)
    where
      turn : (x Q : ℤ) → Within (pos 3 *ℤ pos 294912 *ℤ Q) (x *ℤ pos 1) → Small Q x
      turn = all2 _ (simp bridge (omega arith))

  -- 4·|u - u*| ≤ 3
  pub u-near : (k : ℕ) → Within (pos 3 *ℤ K Q) (pos 4 *ℤ (K Q *ℤ u N s k -ℤ u* C k))
  unfolding u run
  u-near k =
      subst₃ (λ x a b. Within (pos 3 *ℤ K Q) (pos 4 *ℤ (K Q *ℤ filter x (suc run_in + k) -ℤ pos (8 * T) *ℤ (pos T *ℤ a +ℤ pos P *ℤ b))))
      (fun_ext inputs) here next (upward h_q (shifted o e.coefficients) (λ j. exact_small (o + j)) (suc run_in + k) (omega arith))
    where
      -- the line from a period before u(-25) on
      o : ℕ
      o = suc run_in * (N - 1)

      inputs : (j : ℕ) → pos 16 *ℤ wrap N s (o + suc j) ≡ pos 16 *ℤ wrap N s (run_in * (N - 1) + j)
      inputs j = ap (λ t. pos 16 *ℤ t) (ap (wrap N s) (back N j h) ∙ (wrap_periodic N s).again (run_in * (N - 1) + j))
        where
          back : (N j : ℕ) → 0 < N → suc run_in * (N - 1) + suc j ≡ run_in * (N - 1) + j + N
          back N j h = omega arith

      here : C (o + (suc run_in + k)) ≡ C k
      here = ap C (on N k h) ∙ periods e.periodic (suc run_in) k
        where
          on : (N k : ℕ) → 0 < N → suc run_in * (N - 1) + (suc run_in + k) ≡ k + N * suc run_in
          on N k h = omega arith

      next : C (o + suc (suc run_in + k)) ≡ C (suc k)
      next = ap C (on N k h) ∙ periods e.periodic (suc run_in) (suc k)
        where
          on : (N k : ℕ) → 0 < N → suc run_in * (N - 1) + suc (suc run_in + k) ≡ suc k + N * suc run_in
          on N k h = omega arith

  -- 4·|v - v*| ≤ 7
  pub v-near : (k : ℕ) → k < N → Within (pos 7 *ℤ K Q) (pos 4 *ℤ (K Q *ℤ v N s k -ℤ v* C k))
  unfolding v back down
  v-near k l =
      subst (λ i. Within (pos 7 *ℤ K Q) (pos 4 *ℤ (K Q *ℤ v N s k -ℤ v* C i))) (back N k l) (downward w N h_q exact_small near (N + run_in - k) (run N k l)
      (omega arith))
    where
      w : Line
      w = wrap N (u N s)

      gap : Line
      gap k = pos 4 *ℤ (K Q *ℤ w k -ℤ u* C k)

      gap_periodic : Periodic N gap
      gap_periodic =
          record {
            again = λ k i. pos 4 *ℤ (K Q *ℤ (wrap_periodic N (u N s)).again k i -ℤ pos (8 * T) *ℤ
                (pos T *ℤ e.periodic.again k i +ℤ pos P *ℤ (ap C (sym (suc-add k N)) ∙ e.periodic.again (suc k)) i));
          }

      near : (k : ℕ) → Within (pos 3 *ℤ K Q) (gap k)
      near = everywhere (Within (pos 3 *ℤ K Q)) h gap_periodic (λ k l. rw (wrap_own N (u N s) k l) (u-near k))

      back : (N k : ℕ) → k < N → N + run_in - (N + run_in - k) ≡ k
      back N k l = omega arith

      run : (N k : ℕ) → k < N → suc run_in ≤ N + run_in - k
      run N k l = omega arith

  -- 11·|c - 16·c*| ≤ 37
  pub coefficient-near : (k : ℕ) → k < N → Within (pos 37 *ℤ Q) (pos 11 *ℤ (coefficient N s k *ℤ Q -ℤ pos 16 *ℤ C k))
  unfolding coefficient scaled
  coefficient-near k l = last (coefficient N s k) (v N s k) (C k) Q h_q (round_within (pos (6 * P) *ℤ v N s k) T (omega arith)) (v-near k l)

  -- 37/11 is below the tolerance
  pub coefficient_within : (k : ℕ) → k < N → Within (pos tolerance *ℤ Q) (coefficient N s k *ℤ Q -ℤ pos 16 *ℤ C k)
  coefficient_within k l = tolerable (coefficient N s k *ℤ Q -ℤ pos 16 *ℤ C k) Q h_q (coefficient-near k l)
    where
      tolerable : (x Q : ℤ) → pos 0 ≤ℤ Q → Within (pos 37 *ℤ Q) (pos 11 *ℤ x) → Within (pos tolerance *ℤ Q) x
      tolerable = all2 _ (simp bridge (omega arith))
