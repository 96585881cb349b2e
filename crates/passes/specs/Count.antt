-- The number of lines interpolated: those with f not 0, over all three passes. A line that becomes all background is not. Assumes nothing.
use Rattle.std.specs.Prelude.{ℕ, zero, suc, ◌+◌, min, ℤ}
use Rattle.settings.specs.declared.Border.{Border}
use Rattle.moves.specs.Border.{fraction_in}

-- of n lines of N samples, each 1 where f is not 0
unfoldable pub interpolated : Border → ℕ → (ℕ → ℤ) → ℕ → ℕ
interpolated β N move zero = 0
interpolated β N move (suc n) = interpolated β N move n + min 1 (fraction_in β N (move n))

unfoldable pub count : Border → ℕ → ℕ → (ℕ → ℤ) → (ℕ → ℤ) → ℕ
count β W H rows columns = interpolated β W rows H + interpolated β H columns W + interpolated β W rows H
