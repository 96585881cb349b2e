-- A list given by a function of the place, and lists one after the other. Assumes nothing.
use Rattle.std.specs.Prelude.{ℕ, zero, suc, List, [], ◌∷◌, ◌++◌}

module _ {A : Type 0} where
  -- f 0, f 1, .., f (n - 1)
  unfoldable pub tab : (ℕ → A) → ℕ → List A
  tab f zero = []
  tab f (suc n) = tab f n ++ (f n ∷ [])

  -- r 0, r 1, .., r (n - 1), one list after the other
  unfoldable pub cat : (ℕ → List A) → ℕ → List A
  cat r zero = []
  cat r (suc n) = cat r n ++ r n
