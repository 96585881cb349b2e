-- "A quarter move followed by a step serves angles past 45 degrees, with the distance limits measured on the moved picture." Assumes nothing.
use Rattle.std.specs.Prelude.{ℕ, ◌*◌, ◌≡◌, Bool, List, ℤ, take}
use Rattle.refusals.specs.Judging.{number_of}
use Rattle.settings.specs.declared.Setting.{Setting}
use Rattle.passes.specs.Picture.{straighten}
use Rattle.exact.specs.Limits.{Demand3}
use Rattle.pictures.specs.Answer.{Outcome, kernel_in, row_moves, column_moves, AnswerOn}
use Rattle.arrangements.specs.Moves.{screen, stored, moved}
use Rattle.quarters.specs.Answer.{Moved, width_of, height_of, PictureMoved}

-- a move of the samples s that is accepted, and a straightening of what it left, with the size that it answered, that is accepted too: the single call, or a
-- commit
pub record MovedFirst (other : Bool) (W H m : ℕ) (s mid mid' : List ℤ) (r : Moved) (set : Setting) (result work : List ℤ) (q : Outcome) (result' work' : List ℤ) : Type 0 where
  pub first : PictureMoved W H m s mid mid' r
  pub first_accepted : number_of r ≡ 0
  pub second : AnswerOn other (width_of r) (height_of r) set mid' result work q result' work'
  pub second_accepted : number_of q ≡ 0

-- then the result holds the three passes of the moved picture, and demand 3 is kept from the exact picture of the moved picture
pub record OnTheMoved (W H m : ℕ) (s : List ℤ) (r : Moved) (set : Setting) (result' : List ℤ) : Type 0 where
  pub samples : take (width_of r * height_of r) result'
      ≡ straighten set.border (kernel_in set) (width_of r) (height_of r) (row_moves set) (column_moves set) (stored (moved m (screen W H s)))
  pub demand3 : Demand3 set.border (kernel_in set) (width_of r) (height_of r) (row_moves set) (column_moves set) (stored (moved m (screen W H s))) (take (width_of r * height_of r) result')
