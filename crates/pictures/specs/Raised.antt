-- Two calls on pictures of one size, their settings alike, where one number is added to every sample and to the background (Q-12). Each may be the
-- single call or a commit. Assumes nothing.
use Rattle.std.specs.Prelude.{ℕ, ◌*◌, ◌≤◌, ◌≡◌, Bool, List, ℤ, ◌+ℤ◌}
use Rattle.settings.specs.declared.Setting.{Setting}
use Rattle.settings.specs.Setting.{with_border}
use Rattle.moves.specs.Range.{raised, Raised, RaisedWithin}
use Rattle.refusals.specs.Judging.{number_of}
use Rattle.pictures.specs.Answer.{Outcome, count_of, smallest_of, largest_of, AnswerOn}

-- both are accepted: the second has c added to every sample of the first, and to its background
pub record BothStraightened (other other₂ : Bool) (c : ℤ) (W H : ℕ) (s : Setting) (picture result work : List ℤ) (r : Outcome) (result' work' : List ℤ)
    (picture₂ result₂ work₂ : List ℤ) (r₂ : Outcome) (result₂' work₂' : List ℤ) : Type 0 where
  pub first : AnswerOn other W H s picture result work r result' work'
  pub second : AnswerOn other₂ W H (with_border s (raised c s.border)) picture₂ result₂ work₂ r₂ result₂' work₂'
  pub first_accepted : number_of r ≡ 0
  pub second_accepted : number_of r₂ ≡ 0
  pub added : Raised c (W * H) picture picture₂

-- then under linear and Keys, kernels 0 and 1, c is added to every sample of the result, and so to the extremes; under the spline, kernel 2, to every
-- sample to within 13 units; and the count is the same
pub record PictureRaised (c : ℤ) (W H : ℕ) (s : Setting) (r : Outcome) (result' : List ℤ) (r₂ : Outcome) (result₂' : List ℤ) : Type 0 where
  pub samples : s.kernel ≤ 1 → Raised c (W * H) result' result₂'
  pub smallest : s.kernel ≤ 1 → smallest_of r₂ ≡ smallest_of r +ℤ c
  pub largest : s.kernel ≤ 1 → largest_of r₂ ≡ largest_of r +ℤ c
  pub nearly : s.kernel ≡ 2 → RaisedWithin 13 c (W * H) result' result₂'
  pub count : count_of r₂ ≡ count_of r
