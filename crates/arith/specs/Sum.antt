-- Finite families of integers. Assumes nothing.
use Rattle.std.specs.Prelude.{ℕ, zero, suc, max, ℤ, pos, nat_abs, ◌+ℤ◌}

-- f 0 + .. + f (n - 1)
unfoldable pub Σ : (ℕ → ℤ) → ℕ → ℤ
Σ f zero = pos 0
Σ f (suc n) = Σ f n +ℤ f n

-- the greatest of |f 0| .. |f (n - 1)|
unfoldable pub max_abs : (ℕ → ℤ) → ℕ → ℕ
max_abs f zero = 0
max_abs f (suc n) = max (max_abs f n) (nat_abs (f n))
