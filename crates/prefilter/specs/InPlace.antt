-- How the coefficients are computed in place: u takes the places of the samples, and then c the places of u. `coefficients_in_place` in
-- proofs/ says that this gives the coefficients. Assumes nothing.
use Rattle.std.specs.Prelude.{◌≡◌, ℕ, ◌<◌, ◌≤◌, List, ℤ, pos, nat_abs, length, get_or}
use Rattle.lists.specs.Tab.{tab}
use Rattle.lists.specs.Line.{line}
use Rattle.spline.specs.Coefficients.{run_in, run, u, down, back, scaled}

-- a line of 1 to 3,072 places, each within ±B
pub record LineWithin (B : ℕ) (s : List ℤ) : Type 0 where
  pub some : 1 ≤ length s
  pub few : length s ≤ 3072
  pub bounded : (k : ℕ) → k < length s → nat_abs (get_or s k (pos 0)) ≤ B

-- four such lines of one length
pub record FourWithin (B : ℕ) (a b c d : List ℤ) : Type 0 where
  pub first : LineWithin B a
  pub second : LineWithin B b
  pub third : LineWithin B c
  pub fourth : LineWithin B d
  pub as_second : length b ≡ length a
  pub as_third : length c ≡ length a
  pub as_fourth : length d ≡ length a

-- u(-1) of the samples s, after the run-in
unfoldable pub run_in_up : List ℤ → ℤ
run_in_up s = run (length s) (line s) run_in

-- u(0) to u(N - 1)
unfoldable pub risen : List ℤ → List ℤ
risen s = tab (u (length s) (line s)) (length s)

-- the run downward over f, at N, after the run-in
unfoldable pub run_in_down : List ℤ → ℤ
run_in_down f = down (length f) (line f) run_in

-- the run downward at 0 to N - 1, times 6·P/2³⁰
unfoldable pub fallen : List ℤ → List ℤ
fallen f = tab (λ k. scaled (back (length f) (line f) k)) (length f)
