-- The eight exact moves of a picture (Q-10): "0 to 3 are that many clockwise quarter turns, 4 to 7 a left-right mirror and then 0 to 3 turns. Width and
-- height trade places where they must." Assumes nothing.
use Rattle.std.specs.Prelude.{ℕ, zero, suc, ◌+◌, ◌*◌, ◌-◌, ◌/◌, ◌%◌, cond, List, ltb, ℤ}
use Rattle.lists.specs.Picture.{picture, pictured}

-- a picture with its size: `at y x` is what stands in row y, column x
pub record Screen (A : Type 0) : Type 0 where
  pub width : ℕ
  pub height : ℕ
  pub at : ℕ → ℕ → A

-- the samples of a list, row by row, as such a picture; and the list of one
abbrev pub screen : ℕ → ℕ → List ℤ → Screen ℤ
screen W H s = record { width = W; height = H; at = picture W s }

abbrev pub stored : Screen ℤ → List ℤ
stored p = pictured p.width p.height p.at

module _ {A : Type 0} where
  -- one quarter turn clockwise: row y is column y, read from below
  abbrev pub clockwise : Screen A → Screen A
  clockwise p = record { width = p.height; height = p.width; at = λ y x. p.at (p.height - 1 - x) y }

  -- left and right exchanged
  abbrev pub mirrored : Screen A → Screen A
  mirrored p = record { width = p.width; height = p.height; at = λ y x. p.at y (p.width - 1 - x) }

  -- so many quarter turns clockwise
  unfoldable pub turns : ℕ → Screen A → Screen A
  turns zero p = p
  turns (suc n) p = clockwise (turns n p)

  -- the move of a number: turns, or a mirror and then turns
  unfoldable pub moved : ℕ → Screen A → Screen A
  moved m p = cond (ltb m 4) (turns m p) (turns (m - 4) (mirrored p))

-- the places of a picture W wide and H high, each standing where it is; and the place that place k of the moved picture comes from
abbrev pub numbered : ℕ → ℕ → Screen ℕ
numbered W H = record { width = W; height = H; at = λ y x. y * W + x }

abbrev pub source : ℕ → ℕ → ℕ → ℕ → ℕ
source W H m k = let p = moved m (numbered W H) in p.at (k / p.width) (k % p.width)
