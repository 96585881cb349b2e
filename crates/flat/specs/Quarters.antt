-- What C and Rust are told by the calls that move a picture, of two moves in a row and of a moved picture straightened (Q-10), by structs of numbers.
-- Assumes nothing.
use Rattle.std.specs.Prelude.{ℕ, ◌*◌, ◌≤◌, ◌≡◌, List, ◌++◌, ℤ, length, take, drop}
use Rattle.exact.specs.Limits.{Demand3}
use Rattle.pictures.specs.Answer.{kernel_in, row_moves, column_moves, Answer as PictureStraightened}
use Rattle.arrangements.specs.Moves.{screen, stored, moved}
use Rattle.quarters.specs.Answer.{PictureMoved}
use Rattle.flat.specs.declared.FlatSetting.{FlatSetting}
use Rattle.flat.specs.declared.Answer.{Answer}
use Rattle.flat.specs.declared.QuarterAnswer.{QuarterAnswer}
use Rattle.flat.specs.Exported.{Exported, setting_of, of_outcome, of_moved}

-- a call that moves a picture of W by H samples by move m, as it is exported
abbrev pub MoveCall : ℕ → ℕ → ℕ → List ℤ → List ℤ → List ℤ → QuarterAnswer → Type 0
MoveCall W H m picture old new r = Exported of_moved (PictureMoved W H m picture old new) r

-- move a of the samples s answers number 0; move b of what it left, with the size that it answered, goes into a buffer with room
pub record TwoMoves (W H a b : ℕ) (s mid mid' : List ℤ) (r : QuarterAnswer) (old new : List ℤ) (r₂ : QuarterAnswer) : Type 0 where
  pub first : MoveCall W H a s mid mid' r
  pub accepted : r.number ≡ 0
  pub room : W * H ≤ length old
  pub second : MoveCall r.width r.height b mid' old new r₂

-- where straightener_joined_moves names the one move that both are, one call with that move, lent s and the same buffer, answers and leaves the same
pub record ToldAsOne (r₂ : QuarterAnswer) (new : List ℤ) (r₁ : QuarterAnswer) (one : List ℤ) : Type 0 where
  pub accepted : r₂.number ≡ 0
  pub answer : r₂ ≡ r₁
  pub result : new ≡ one

-- where the second is the move that straightener_inverse_move names of the first, the picture is back
pub record ToldBack (W H : ℕ) (s old new : List ℤ) (r₂ : QuarterAnswer) : Type 0 where
  pub accepted : r₂.number ≡ 0
  pub width : r₂.width ≡ W
  pub height : r₂.height ≡ H
  pub result : new ≡ take (W * H) s ++ drop (W * H) old

-- a move that answers number 0, and straightener_straighten of what it left, with the size that it answered, that does too
pub record MoveAndStraighten (W H m : ℕ) (s mid mid' : List ℤ) (r : QuarterAnswer) (set : FlatSetting) (result work : List ℤ) (q : Answer) (result' work' : List ℤ) : Type 0 where
  pub first : MoveCall W H m s mid mid' r
  pub first_accepted : r.number ≡ 0
  pub second : Exported of_outcome (λ o. PictureStraightened r.width r.height (setting_of set) mid' result work o result' work') q
  pub second_accepted : q.number ≡ 0

-- then the distance limits are kept from the exact picture of the moved picture
abbrev pub ToldSideways : ℕ → ℕ → ℕ → List ℤ → QuarterAnswer → FlatSetting → List ℤ → Type 0
ToldSideways W H m s r set result' =
    Demand3 (setting_of set).border (kernel_in (setting_of set)) r.width r.height (row_moves (setting_of set)) (column_moves (setting_of set))
    (stored (moved m (screen W H s))) (take (r.width * r.height) result')
