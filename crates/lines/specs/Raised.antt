-- Two calls that move their lines alike, where one number is added to every sample and to the background (Q-12). Assumes nothing.
use Rattle.std.specs.Prelude.{◌≡◌, Result, List, ℕ, ◌≤◌, ℤ, ◌+ℤ◌}
use Rattle.refusals.specs.declared.Refusal.{Refusal}
use Rattle.refusals.specs.Judging.{number_of}
use Rattle.settings.specs.declared.Border.{Border}
use Rattle.moves.specs.Range.{raised, Raised, RaisedWithin}
use Rattle.lines.specs.declared.Moved.{Moved}
use Rattle.lines.specs.Answer.{count_of, smallest_of, largest_of, LineMoved}

-- both are accepted: the second has c added to every sample of the first, and to its background
pub record BothMoved (c : ℤ) (n kernel : ℕ) (d : ℤ) (β : Border) (line result work result' work' : List ℤ) (r : Result Moved Refusal)
    (line₂ result₂ work₂ result₂' work₂' : List ℤ) (r₂ : Result Moved Refusal) : Type 0 where
  pub first : LineMoved n kernel d β line result work result' work' r
  pub second : LineMoved n kernel d (raised c β) line₂ result₂ work₂ result₂' work₂' r₂
  pub first_accepted : number_of r ≡ 0
  pub second_accepted : number_of r₂ ≡ 0
  pub added : Raised c n line line₂

-- then under linear and Keys, kernels 0 and 1, c is added to every sample of the result, and so to the extremes; under the spline, kernel 2, to every
-- sample to within 1 unit; and the count is the same
pub record LineRaised (c : ℤ) (n kernel : ℕ) (result' : List ℤ) (r : Result Moved Refusal) (result₂' : List ℤ) (r₂ : Result Moved Refusal) : Type 0 where
  pub samples : kernel ≤ 1 → Raised c n result' result₂'
  pub smallest : kernel ≤ 1 → smallest_of r₂ ≡ smallest_of r +ℤ c
  pub largest : kernel ≤ 1 → largest_of r₂ ≡ largest_of r +ℤ c
  pub nearly : kernel ≡ 2 → RaisedWithin 1 c n result' result₂'
  pub count : count_of r₂ ≡ count_of r
