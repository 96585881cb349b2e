-- A list read through a function of the place, and the functions that carry the places 0 to n - 1 onto themselves. Assumes nothing.
use Rattle.std.specs.Prelude.{ℕ, ◌<◌, ◌≡◌, List, ℤ}
use Rattle.lists.specs.Tab.{tab}
use Rattle.lists.specs.Line.{line}

-- n samples, of which sample k is the one at place f k of the list
unfoldable pub through : (ℕ → ℕ) → ℕ → List ℤ → List ℤ
through f n s = tab (λ k. line s (f k)) n

-- f carries the places 0 to n - 1 onto themselves, and g back: every place has exactly one
pub record Bijection (n : ℕ) (f g : ℕ → ℕ) : Type 0 where
  pub there : (k : ℕ) → k < n → f k < n
  pub back : (k : ℕ) → k < n → g k < n
  pub undone : (k : ℕ) → k < n → g (f k) ≡ k
  pub redone : (k : ℕ) → k < n → f (g k) ≡ k
