-- The three cases of a reading, each with its greys, which are exact for any black and white within the range of samples. Assumes nothing.
use Prim.Native.Nat.{◌*◌, ◌≤◌}
use mathlib.Core.Path.{◌≡◌, refl}
use mathlib.Core.Bool.{Bool, true, false, cond}
use mathlib.Core.List.{[], ◌∷◌, map}
use native.Mathlib.Omega.{arith}
use lib.Dec.{lit≤}
use lib.IntN.{ℤ, pos, nat_abs, ◌-ℤ◌}
use lib.Signed.{lt_z, ◌≤ℤ◌, ◌<ℤ◌}
use lib.Ieee.{binary32, round, of_bits}
use Rattle.arith.proofs.Bridge.{bridge, all1, all2}
use Rattle.arith.proofs.Machine.{true-lt, false-lt}
use Rattle.readings.specs.declared.Reading.TheVariants.{Level, Under, Over}
use Rattle.readings.specs.Sample.{float_of, black, white, reading_of, ReadsExactly}
use Rattle.readings.specs.Answers.{range}
use Rattle.readings.proofs.Exact.{float_exact}

-- ---- the bounds: 2,047 is Under by 1/128 and 2,048 Level 16, 30,080 is Level 235 and 30,081 Over by 1/128
at_black : map reading_of (pos 2047 ∷ pos 2048 ∷ []) ≡ Under (of_bits binary32 0x3C00_0000) ∷ Level (of_bits binary32 0x4180_0000) ∷ []
unfolding reading_of float_of round of_bits
at_black = refl

at_white : map reading_of (pos 30080 ∷ pos 30081 ∷ []) ≡ Level (of_bits binary32 0x436B_0000) ∷ Over (of_bits binary32 0x3C00_0000) ∷ []
unfolding reading_of float_of round of_bits
at_white = refl

-- ---- document 02's three cases: Level from black to white, Under below black, Over above white
-- what is above white is not below black
past_black : (v : ℤ) → white <ℤ v → black ≤ℤ v
past_black = all1 _ (simp bridge (omega arith))

module _ (v : ℤ) where
  pub level-between : black ≤ℤ v → v ≤ℤ white → reading_of v ≡ Level (float_of v)
  unfolding reading_of
  level-between b w = rw (false-lt v black b, false-lt white v w) refl

  pub under_below : v <ℤ black → reading_of v ≡ Under (float_of (black -ℤ v))
  unfolding reading_of
  under_below u = rw (true-lt v black u) refl

  pub over_above : white <ℤ v → reading_of v ≡ Over (float_of (v -ℤ white))
  unfolding reading_of
  over_above o = rw (false-lt v black (past_black v o), true-lt white v o) refl

-- ---- greys
pub difference_size : (a b : ℤ) → nat_abs a ≤ range → nat_abs b ≤ range → nat_abs (a -ℤ b) ≤ 2 * range
difference_size = all2 _ (simp bridge (omega arith))

pub reading_exact : (v : ℤ) → nat_abs v ≤ range → ReadsExactly (reading_of v) v
unfolding reading_of
reading_exact v h = each (lt_z v black) (lt_z white v)
  where
    each : (under over : Bool)
        → ReadsExactly (cond under (Under (float_of (black -ℤ v))) (cond over (Over (float_of (v -ℤ white))) (Level (float_of v)))) v
    each true over = float_exact (black -ℤ v) (difference_size black v (lit≤ tt) h)
    each false true = float_exact (v -ℤ white) (difference_size v white h (lit≤ tt))
    each false false = float_exact v (omega (arith, h))
