-- The definitions of u, v and c follow document 01's rules, in its words. Assumes nothing.
use mathlib.Core.Path.{◌≡◌, refl, ap, ◌∙◌, fun_ext}
use Prim.Native.Nat.{ℕ, suc, ◌+◌, ◌*◌, ◌-◌, ◌%◌, ◌<◌}
use native.Mathlib.Nat.{mod-lt}
use native.Mathlib.Omega.{arith}
use lib.IntN.{ℤ, pos, ◌-ℤ◌, ◌*ℤ◌}
use Rattle.arith.specs.Whole.{round}
use Rattle.lists.specs.Line.{Line, wrap}
use Rattle.lists.proofs.Cyclic.{wrap_periodic, wrap_own, periods}
use Rattle.spline.specs.Coefficients.{P, T, run_in, filter, run, u, down, back, v, scaled, coefficient}

-- P is the whole number nearest (2 - √3)·T: (2·T - P - 1/2)² < 3·T² < (2·T - P + 1/2)²
pub P_nearest : ((4 * T - 2 * P - 1) * (4 * T - 2 * P - 1) < 12 * T * T) × (12 * T * T < (4 * T - 2 * P + 1) * (4 * T - 2 * P + 1))
P_nearest = omega arith

-- u(-25) = 0, and u(k) = 16·s(k) - [P·u(k-1)/T]
pub run_start : (N : ℕ) (s : Line) → run N s 0 ≡ pos 0
unfolding run filter
run_start N s = refl

pub run_next : (N : ℕ) (s : Line) (j : ℕ) → run N s (suc j) ≡ pos 16 *ℤ wrap N s (run_in * (N - 1) + j) -ℤ round (pos P *ℤ run N s j) T
unfolding run filter
run_next N s j = refl

pub u_next : (N : ℕ) (s : Line) (k : ℕ) → 0 < N → u N s (suc k) ≡ pos 16 *ℤ wrap N s (suc k) -ℤ round (pos P *ℤ u N s k) T
unfolding u
u_next N s k h =
    ap (run N s) (one_more k) ∙ run_next N s (suc run_in + k) ∙ ap (λ t. pos 16 *ℤ t -ℤ round (pos P *ℤ run N s (suc run_in + k)) T) (ap (wrap N s) (here N k h)
    ∙ periods (wrap_periodic N s) run_in (suc k))
  where
    one_more : (k : ℕ) → suc run_in + suc k ≡ suc (suc run_in + k)
    one_more k = omega arith

    here : (N k : ℕ) → 0 < N → run_in * (N - 1) + (suc run_in + k) ≡ suc k + N * run_in
    here N k h = omega arith

-- on the line's own places, from the run-in on
pub u-place : (N : ℕ) (s : Line) (k : ℕ) → k < N → u N s k ≡ pos 16 *ℤ s k -ℤ round (pos P *ℤ run N s (run_in + k)) T
unfolding u
u-place N s k l =
    ap (run N s) (one_more k) ∙ run_next N s (run_in + k) ∙ ap (λ t. pos 16 *ℤ t -ℤ round (pos P *ℤ run N s (run_in + k)) T) (ap (wrap N s) (here N k l)
    ∙ periods (wrap_periodic N s) run_in k ∙ wrap_own N s k l)
  where
    one_more : (k : ℕ) → suc run_in + k ≡ suc (run_in + k)
    one_more k = omega arith

    here : (N k : ℕ) → k < N → run_in * (N - 1) + (run_in + k) ≡ k + N * run_in
    here N k l = omega arith

-- v(N + run_in) = 0, and v(k) = u(k mod N) - [P·v(k+1)/T]
pub down_start : (N : ℕ) (f : Line) → down N f 0 ≡ pos 0
unfolding down filter
down_start N f = refl

pub down_next : (N : ℕ) (f : Line) (j : ℕ) → down N f (suc j) ≡ wrap N f (N + run_in - suc j) -ℤ round (pos P *ℤ down N f j) T
unfolding down filter
down_next N f j = refl

pub back_next : (N : ℕ) (f : Line) (k : ℕ) → k < N + run_in → back N f k ≡ wrap N f k -ℤ round (pos P *ℤ back N f (suc k)) T
unfolding back
back_next N f k l =
    ap (down N f) (one_more N k l) ∙ down_next N f (N + run_in - suc k)
    ∙ ap (λ i. wrap N f i -ℤ round (pos P *ℤ down N f (N + run_in - suc k)) T) (here N k l)
  where
    one_more : (N k : ℕ) → k < N + run_in → N + run_in - k ≡ suc (N + run_in - suc k)
    one_more N k l = omega arith

    here : (N k : ℕ) → k < N + run_in → N + run_in - suc (N + run_in - suc k) ≡ k
    here N k l = omega arith

pub v_start : (N : ℕ) (s : Line) → v N s (N + run_in) ≡ pos 0
unfolding v back
v_start N s = ap (down N (u N s)) (none N) ∙ down_start N (u N s)
  where
    none : (N : ℕ) → N + run_in - (N + run_in) ≡ 0
    none N = omega arith

pub v_next : (N : ℕ) (s : Line) (k : ℕ) → k < N + run_in → v N s k ≡ wrap N (u N s) k -ℤ round (pos P *ℤ v N s (suc k)) T
unfolding v
v_next N s = back_next N (u N s)

-- a line's own places alone decide its coefficients
module _ {N : ℕ} {x y : Line} (h : 0 < N) (same : (k : ℕ) → k < N → x k ≡ y k) where
  pub wrap_local : wrap N x ≡ wrap N y
  unfolding wrap
  wrap_local = fun_ext (λ k. same (k % N) (mod-lt k h))

  pub coefficient_local : coefficient N x ≡ coefficient N y
  unfolding coefficient scaled v back down u run
  coefficient_local =
      ap (λ (w : Line). λ k. round (pos (6 * P) *ℤ filter (λ j. wrap N (λ k. filter (λ j. pos 16 *ℤ w (run_in * (N - 1) + j)) (suc run_in + k)) (N + run_in - suc j))
      (N + run_in - k)) T) wrap_local

  -- so does what the run downward makes of it
  pub back_local : back N x ≡ back N y
  unfolding back down
  back_local = ap (λ (w : Line). λ k. filter (λ j. w (N + run_in - suc j)) (N + run_in - k)) wrap_local
