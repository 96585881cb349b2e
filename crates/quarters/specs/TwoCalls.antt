-- Two moves in a row: the second call is lent what the first one left, with the size that it answered. Assumes nothing.
use Rattle.std.specs.Prelude.{ℕ, ◌*◌, ◌≤◌, ◌<◌, ◌≡◌, List, ◌++◌, ℤ, length, take, drop}
use Rattle.refusals.specs.Judging.{number_of}
use Rattle.quarters.specs.Answer.{Moved, width_of, height_of, PictureMoved}

-- move a of the samples s, and then move b, one of the eight, into a buffer with room
pub record InARow (W H a b : ℕ) (s mid mid' : List ℤ) (r : Moved) (old new : List ℤ) (r₂ : Moved) : Type 0 where
  pub first : PictureMoved W H a s mid mid' r
  pub accepted : number_of r ≡ 0
  pub known : b < 8
  pub room : W * H ≤ length old
  pub second : PictureMoved (width_of r) (height_of r) b mid' old new r₂

-- the second is accepted; and it answers and leaves what one call would with the move that the table names, lent s and the same buffer
pub record AsOne (r₂ : Moved) (new : List ℤ) (r₁ : Moved) (one : List ℤ) : Type 0 where
  pub accepted : number_of r₂ ≡ 0
  pub answer : r₂ ≡ r₁
  pub result : new ≡ one

-- a move and then the one that undoes it give the picture back, in its size
pub record Back (W H : ℕ) (s old new : List ℤ) (r₂ : Moved) : Type 0 where
  pub accepted : number_of r₂ ≡ 0
  pub width : width_of r₂ ≡ W
  pub height : height_of r₂ ≡ H
  pub result : new ≡ take (W * H) s ++ drop (W * H) old
