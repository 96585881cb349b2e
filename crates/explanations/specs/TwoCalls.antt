-- What an explanation of place k and a move of the same line, under the wrapped border, promise together. Assumes nothing.
use Rattle.std.specs.Prelude.{◌≡◌, Result, Ok, List, ℕ, ◌*◌, ◌≤◌, leb, ℤ, length}
use Rattle.lists.specs.Line.{line}
use Rattle.refusals.specs.declared.Refusal.{Refusal}
use Rattle.refusals.specs.declared.Refusal.TheVariants.{Outside}
use Rattle.refusals.specs.Judging.{refused_if, number_of}
use Rattle.settings.specs.declared.Border.TheVariants.{Wrapped}
use Rattle.lines.specs.declared.Moved.{Moved}
use Rattle.lines.specs.Answer.{LineMoved}
use Rattle.explanations.specs.declared.Parts.{Parts}
use Rattle.explanations.specs.Answer.{parts_of_answer, Explained}

pub record TwoCalls (n kernel : ℕ) (d : ℤ) (k : ℕ) (s room room' : List ℤ) (x : Result Parts Refusal) (result work result' work' : List ℤ) (r : Result Moved Refusal) : Type 0 where
  pub explaining : Explained n kernel d k s room room' x
  pub moving : LineMoved n kernel d Wrapped s result work result' work' r

-- the quotient is the sample that the move wrote at k, and every place of a line that was moved has its explanation
pub record Agreed (n k : ℕ) (room : List ℤ) (x : Result Parts Refusal) (result' : List ℤ) (r : Result Moved Refusal) : Type 0 where
  pub sample : number_of x ≡ 0 → number_of r ≡ 0 → (parts_of_answer x).quotient ≡ line result' k
  pub none_left_out : number_of r ≡ 0 → 6 * n ≤ length room → x ≡ refused_if (leb n k) Outside (Ok (parts_of_answer x))
