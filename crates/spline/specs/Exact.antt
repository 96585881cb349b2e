-- The exact coefficients of a line of fractions. A line of fractions is whole numbers S over one positive whole number q, and its exact
-- coefficients are whole numbers C over one positive whole number Q with (C(k-1) + 4·C(k) + C(k+1))/Q = 6·S(k)/q for every k, cyclically
-- (equation 21). Assumes nothing.
use Rattle.std.specs.Prelude.{◌≡◌, ℕ, suc, ℤ, pos, ◌+ℤ◌, ◌*ℤ◌, ◌<ℤ◌}
use Rattle.lists.specs.Line.{Line, Periodic}

-- the left side of the equation, of three neighbours
abbrev pub smooth : ℤ → ℤ → ℤ → ℤ
smooth x y z = x +ℤ pos 4 *ℤ y +ℤ z

-- C(k-1) + 4·C(k) + C(k+1), at k + 1
abbrev pub smoothed : Line → Line
smoothed C k = smooth (C k) (C (suc k)) (C (suc (suc k)))

pub record Coefficients (S : Line) (q : ℤ) (C : Line) (Q : ℤ) : Type 0 where
  pub solves : (k : ℕ) → smoothed C k *ℤ q ≡ pos 6 *ℤ S (suc k) *ℤ Q

-- C over Q are the exact coefficients of S over q, a line with period N
pub record Solution (N : ℕ) (S : Line) (q : ℤ) (C : Line) (Q : ℤ) : Type 0 where
  pub positive : pos 0 <ℤ Q
  pub periodic : Periodic N C
  pub coefficients : Coefficients S q C Q

-- each c(k) is within this of 16 times the exact one
abbrev pub tolerance : ℕ
tolerance = 4
