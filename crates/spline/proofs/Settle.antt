-- How near a rounded `filter` comes to an exact one. With P/T below 3/11 a start's error dies off by the factor 3 at each input,
-- and what each input adds stays below 11/8 of it: `settle`. All in whole numbers: y over K is the exact filter's value.
-- Assumes nothing.
use mathlib.Core.Path.{◌≡◌, sym, ap, subst}
use Prim.Native.Nat.{ℕ, zero, suc, ◌+◌, ◌*◌, ◌-◌, ◌^◌, ◌≤◌, ◌<◌}
use native.Mathlib.Nat.{pow-suc, pow-le-pow_right}
use native.Mathlib.Omega.{arith}
use lib.IntN.{ℤ, pos, ◌+ℤ◌, ◌-ℤ◌, ◌*ℤ◌}
use lib.Signed.{◌≤ℤ◌, ◌<ℤ◌}
use Rattle.arith.proofs.Bridge.{bridge, all2, all3}
use Rattle.arith.proofs.Ring.{var, ◌⊠◌, reify, vars2, vars5, vars7}
use Rattle.arith.proofs.Cert.{linear, rounding, above, ◌⊕◌, ◌⊗◌, ◌·◌, ◌⊙◌}
use Rattle.arith.proofs.Laws.{pos-≤ℤ}
use Rattle.arith.specs.Whole.{round}
use Rattle.lists.specs.Line.{Line}
use Rattle.arith.proofs.Within.{Within, round_within, cancel_within}
use Rattle.spline.specs.Coefficients.{P, T, run_in, filter}

-- ---- errors E with |T·E(j+1) + P·E(j)| ≤ T·β, from |E(0)| ≤ A: 8·B·|E(j)| ≤ 11·β·B + 8·A, where B is 3ʲ
abbrev Settled : ℤ → ℤ → ℤ → ℤ → Type 0
Settled β A B E = Within (pos 11 *ℤ β *ℤ B +ℤ pos 8 *ℤ A) (pos 8 *ℤ B *ℤ E)

step : (β A B E E' : ℤ) → pos 0 ≤ℤ β → pos 0 ≤ℤ A → pos 0 ≤ℤ B → Within (pos T *ℤ β) (pos T *ℤ E' +ℤ pos P *ℤ E) → Settled β A B E
    → Settled β A (B *ℤ pos 3) E'
step = vars5 _ (simp reify (λ ρ β A B new old. (
  rounding (T - 1) (24 · (B ⊗ new.0) ⊕ (3 * P) · old.1 ⊕ (9 * T - 33 * P) · (β ⊗ B) ⊕ (8 * T - 24 * P) · A) tt,
  rounding (T - 1) (24 · (B ⊗ new.1) ⊕ (3 * P) · old.0 ⊕ (9 * T - 33 * P) · (β ⊗ B) ⊕ (8 * T - 24 * P) · A) tt,
)))

settle : (E : Line) (β A : ℤ) (n : ℕ) → pos 0 ≤ℤ β → pos 0 ≤ℤ A → Within A (E 0)
    → ((j : ℕ) → j < n → Within (pos T *ℤ β) (pos T *ℤ E (suc j) +ℤ pos P *ℤ E j)) → (j : ℕ) → j ≤ n → Settled β A (pos (3 ^ j)) (E j)
settle E β A n hβ hA start each zero l = begin β A (E 0) hβ start
  where
    begin : (β A E : ℤ) → pos 0 ≤ℤ β → Within A E → Settled β A (pos 1) E
    begin = all3 _ (simp bridge (omega arith))
settle E β A n hβ hA start each (suc j) l =
    subst (λ (B : ℤ). Settled β A B (E (suc j))) (ap pos (sym (pow-suc 3 j))) (step β A (pos (3 ^ j)) (E j) (E (suc j)) hβ hA (pos-≤ℤ {m = 0}
    (omega arith)) (each j l) (settle E β A n hβ hA start each j (omega arith)))

-- ---- y over K follows the filter of x but for g/60 at each input, and starts within A/K of 0
pub record Follows (x y : Line) (K A : ℤ) (g n : ℕ) : Type 0 where
  pub non_neg : pos 0 ≤ℤ K
  pub start : Within A (y 0)
  pub rule : (j : ℕ) → j < n → Within (pos g *ℤ K *ℤ pos T) (pos 60 *ℤ (pos T *ℤ y (suc j) +ℤ pos P *ℤ y j -ℤ K *ℤ pos T *ℤ x j))

-- the rounding, R for P·f/T, adds 30/60: 60·(K·filter - y) are errors with β = (30 + g)·K
rounding_step : (f R x y y' K g : ℤ) → pos 0 ≤ℤ K → Within (pos T) (pos 2 *ℤ (pos T *ℤ R -ℤ pos P *ℤ f))
    → Within (g *ℤ K *ℤ pos T) (pos 60 *ℤ (pos T *ℤ y' +ℤ pos P *ℤ y -ℤ K *ℤ pos T *ℤ x))
    → Within (pos T *ℤ ((pos 30 +ℤ g) *ℤ K)) (pos T *ℤ (pos 60 *ℤ (K *ℤ (x -ℤ R) -ℤ y')) +ℤ pos P *ℤ (pos 60 *ℤ (K *ℤ f -ℤ y)))
rounding_step = vars7 _ (simp reify (λ ρ K r exact. (
  linear (30 · (K ⊗ r.1) ⊕ exact.1) tt,
  linear (30 · (K ⊗ r.0) ⊕ exact.0) tt,
)))

-- after the run-in the start counts for z/120 at most
forget : (E K A B g h z : ℤ) → pos 0 ≤ℤ K → pos 0 ≤ℤ z → pos (3 ^ suc run_in) ≤ℤ B → pos 120 *ℤ h ≡ pos 330 +ℤ pos 11 *ℤ g +ℤ z
    → (pos 480 *ℤ A) ≤ℤ (z *ℤ K *ℤ pos (3 ^ suc run_in)) → Settled ((pos 30 +ℤ g) *ℤ K) (pos 60 *ℤ A) B (pos 60 *ℤ E)
    → Within (B *ℤ (h *ℤ K)) (B *ℤ (pos 4 *ℤ E))
forget = vars7 _ (simp reify (λ ρ K z B e A old. (
  rounding 119 (old.0 ⊕ z ⊗ K ⊗ B ⊕ A ⊕ above ((var 1 ⊠ var 3) ⊙ e)) tt,
  rounding 119 (old.1 ⊕ z ⊗ K ⊗ B ⊕ A ⊕ above ((var 1 ⊠ var 3) ⊙ e)) tt,
)))

-- so 4·|K·filter - y| ≤ h·K, where h/4 is 11/8 of (30 + g)/60 and z/480 more
pub filter-near : {x y : Line} {K A : ℤ} {g n : ℕ} (h z : ℕ) → 120 * h ≡ 330 + 11 * g + z → (pos 480 *ℤ A) ≤ℤ (pos z *ℤ K *ℤ pos (3 ^ suc run_in))
    → Follows x y K A g n → (j : ℕ) → suc run_in ≤ j → j ≤ n → Within (pos h *ℤ K) (pos 4 *ℤ (K *ℤ filter x j -ℤ y j))
unfolding filter
filter-near {x} {y} {K} {A} {g} {n} h z e small f j long l =
    cancel_within (pos (3 ^ j)) (pos h *ℤ K) (pos 4 *ℤ error j) (positive (3 ^ j) large) (forget (error j) K A (pos (3 ^ j)) (pos g) (pos h) (pos z)
    f.non_neg (natural z) (pos-≤ℤ large) (ap pos e) small settled)
  where
    error : Line
    error j = K *ℤ filter x j -ℤ y j

    large : 3 ^ suc run_in ≤ 3 ^ j
    large = pow-le-pow_right {n = 3} (omega arith) {i = suc run_in} {j = j} long

    positive : (n : ℕ) → 3 ^ suc run_in ≤ n → pos 0 <ℤ pos n
    positive = simp bridge (omega arith)

    natural : (n : ℕ) → pos 0 ≤ℤ pos n
    natural n = pos-≤ℤ {m = 0} (omega arith)

    β_non_neg : (g K : ℤ) → pos 0 ≤ℤ g → pos 0 ≤ℤ K → pos 0 ≤ℤ ((pos 30 +ℤ g) *ℤ K)
    β_non_neg = vars2 _ (simp reify (λ ρ g K. linear (g ⊗ K ⊕ 30 · K) tt))

    A_non_neg : (A y : ℤ) → Within A y → pos 0 ≤ℤ (pos 60 *ℤ A)
    A_non_neg = all2 _ (simp bridge (omega arith))

    first : (y K A : ℤ) → Within A y → Within (pos 60 *ℤ A) (pos 60 *ℤ (K *ℤ pos 0 -ℤ y))
    first = all3 _ (simp bridge (omega arith))

    new : (j : ℕ) → j < n → Within (pos T *ℤ ((pos 30 +ℤ pos g) *ℤ K)) (pos T *ℤ (pos 60 *ℤ error (suc j)) +ℤ pos P *ℤ (pos 60 *ℤ error j))
    new j l =
        rounding_step (filter x j) (round (pos P *ℤ filter x j) T) (x j) (y j) (y (suc j)) K (pos g) f.non_neg (round_within (pos P *ℤ filter x j) T
        (omega arith)) (f.rule j l)

    settled : Settled ((pos 30 +ℤ pos g) *ℤ K) (pos 60 *ℤ A) (pos (3 ^ j)) (pos 60 *ℤ error j)
    settled =
        settle (λ j. pos 60 *ℤ error j) ((pos 30 +ℤ pos g) *ℤ K) (pos 60 *ℤ A) n (β_non_neg (pos g) K (natural g) f.non_neg) (A_non_neg A (y 0)
        f.start) (first (y 0) K A f.start) new j l
