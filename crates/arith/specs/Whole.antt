-- Division of an integer by a natural number: rounded down, what is left over, and rounded to the nearest. Assumes nothing.
use Rattle.std.specs.Prelude.{cond, ℕ, ◌*◌, ℤ, pos, nat_abs, ◌+ℤ◌, ◌-ℤ◌, ◌*ℤ◌}
use Rattle.std.specs.Int.Signed.{le_z, shr_z}

-- z / m rounded down. The library's `shr_z (pos a) m` is a / m, and `shr_z (negsuc a) m`, of -(a + 1), is -(a / m + 1)
unfoldable pub floor : ℤ → ℕ → ℤ
floor z m = shr_z z m

-- z modulo m, into 0 to m - 1
unfoldable pub remainder : ℤ → ℕ → ℕ
remainder z m = nat_abs (z -ℤ pos m *ℤ floor z m)

-- [p/r]: p / r to the nearest whole number, halves upward, the floor of (2p + r)/(2r)
unfoldable pub round : ℤ → ℕ → ℤ
round p r = floor (pos 2 *ℤ p +ℤ pos r) (2 * r)

-- the lesser of two
unfoldable pub min_ℤ : ℤ → ℤ → ℤ
min_ℤ x y = cond (le_z x y) x y

-- the greater of two
unfoldable pub max_ℤ : ℤ → ℤ → ℤ
max_ℤ x y = cond (le_z x y) y x
