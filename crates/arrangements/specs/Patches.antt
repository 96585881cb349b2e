-- A picture that is written patch by patch. Assumes nothing.
use Rattle.std.specs.Prelude.{ℕ, ◌+◌, ◌*◌, ◌<◌, ◌≡◌, List, ℤ, length}
use Rattle.lists.specs.Line.{line}
use Rattle.lists.specs.Picture.{Picture}

-- of a picture W wide, the n columns from column x on are in the h rows from row y on those of p; every other place is as it was
pub record Patch (W x n y h : ℕ) (p : Picture) (old new : List ℤ) : Type 0 where
  pub long : length new ≡ length old
  pub inside : (i k : ℕ) → i < h → k < n → line new ((y + i) * W + (x + k)) ≡ p i k
  pub outside : (q : ℕ) → ((i k : ℕ) → i < h → k < n → q ≡ (y + i) * W + (x + k) → ⊥) → line new q ≡ line old q
