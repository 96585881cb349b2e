-- The forms that one sample is given in. A sample is in units of 1/128 grey. Assumes nothing.
use Rattle.std.specs.Prelude.{ℕ, not, cond, T, ℤ, pos, nat_abs, ◌+ℤ◌, ◌-ℤ◌, Float}
use Rattle.std.specs.Int.Signed.{lt_z, non_neg}
use Rattle.std.specs.Float.Ieee as Ieee
use Rattle.std.specs.Float.{binary32}
use Rattle.std.specs.Float.Ieee.Exact.{HasValue}
use Rattle.arith.specs.Whole.{floor, min_ℤ, max_ℤ}
use Rattle.readings.specs.declared.Reading.{Reading}
use Rattle.readings.specs.declared.Reading.TheVariants.{Level, Under, Over}

-- half a grey, added so that what is rounded down comes out nearest
abbrev pub half_grey : ℕ
half_grey = 64

-- a grey of a byte: (v + 64)/128 rounded down, held to 0 to 255
unfoldable pub grey_of : ℤ → ℕ
grey_of v = nat_abs (max_ℤ (pos 0) (min_ℤ (pos 255) (floor (v +ℤ pos half_grey) 128)))

-- v/128 as a 32-bit float: the one nearest to |v|/128, with the sign of v
unfoldable pub float_of : ℤ → Float
float_of v = Ieee.round binary32 (not (non_neg v)) (nat_abs v) 128

-- x is v/128 with nothing rounded: it has that sign and that value, and it is written in the one way in which a 32-bit float holds a value
pub record Exactly (x : Float) (v : ℤ) : Type 0 where
  pub value : HasValue x (not (non_neg v)) (nat_abs v) 128
  pub held : T (Ieee.fits binary32 x)

-- black and white of the video range, greys 16 and 235, in units (Q-4); `reading_of` alone is measured from them
abbrev pub black : ℤ
black = pos 2048

abbrev pub white : ℤ
white = pos 30080

-- a reading: below black Under, by the greys that are missing, above white Over, by those that are too many, otherwise Level
unfoldable pub reading_of : ℤ → Reading
reading_of v =
    cond (lt_z v black) (Under (float_of (black -ℤ v)))
    (cond (lt_z white v) (Over (float_of (v -ℤ white)))
    (Level (float_of v)))

-- the greys that each case of a reading of v carries, with nothing rounded
abbrev pub ReadsExactly : Reading → ℤ → Type 0
ReadsExactly (Level x) v = Exactly x v
ReadsExactly (Under x) v = Exactly x (black -ℤ v)
ReadsExactly (Over x) v = Exactly x (v -ℤ white)
