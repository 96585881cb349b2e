-- The exact picture: the three passes in fractions, each starting from the fractions that the pass before it left, with nothing rounded.
-- It is worked out from the samples and the moves alone. Assumes nothing.
use Rattle.std.specs.Prelude.{◌≡◌, List, ℕ, ◌*◌, ◌<◌, ℤ, pos, ◌<ℤ◌, length}
use Rattle.settings.specs.declared.Border.{Border}
use Rattle.kernels.specs.declared.Kernel.{Kernel}
use Rattle.lists.specs.Picture.{Picture, picture}
use Rattle.passes.specs.Picture.{turned}
use Rattle.exact.specs.ExactLine.{ExactMove}

-- one pass over rows, from S over q to E over Z
pub record ExactRows (β : Border) (κ : Kernel) (W H : ℕ) (move : ℕ → ℤ) (S : Picture) (q : ℤ) (E : Picture) (Z : ℤ) : Type 0 where
  pub positive : pos 0 <ℤ Z
  pub row : (y : ℕ) → y < H → ExactMove β κ W (move y) (S y) q (E y) Z

-- of the samples X, taken as fractions over 1: E over Q, by way of the fractions that passes 1 and 2 leave
pub record ExactPicture (β : Border) (κ : Kernel) (W H : ℕ) (rows columns : ℕ → ℤ) (X E : Picture) (Q : ℤ) : Type 0 where
  pub E₁ : Picture
  pub Q₁ : ℤ
  pub E₂ : Picture
  pub Q₂ : ℤ
  pub first : ExactRows β κ W H rows X (pos 1) E₁ Q₁
  pub second : ExactRows β κ H W columns (turned E₁) Q₁ (turned E₂) Q₂
  pub third : ExactRows β κ W H rows E₂ Q₂ E Q

-- the same of lists of W·H numbers, row by row: E over Q is the exact picture of the samples s
pub record ExactList (β : Border) (κ : Kernel) (W H : ℕ) (rows columns : ℕ → ℤ) (s E : List ℤ) (Q : ℤ) : Type 0 where
  pub places : length E ≡ W * H
  pub exact : ExactPicture β κ W H rows columns (picture W s) (picture W E) Q
