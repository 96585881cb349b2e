-- What C and Rust are told by an explanation, of itself and of the same line moved under the wrapped border (Q-11), by structs of numbers. Assumes nothing.
use Rattle.std.specs.Prelude.{◌≡◌, cond, List, ℕ, ◌*◌, ◌≤◌, leb, ℤ, length}
use Rattle.lists.specs.Line.{line}
use Rattle.explanations.specs.Answer.{Shown}
use Rattle.flat.specs.declared.ExplanationAnswer.{ExplanationAnswer}
use Rattle.flat.specs.declared.Answer.{Answer}

-- an explanation x of place k, with a work of `room`, and a move that answers r and leaves `result'`: what x shows adds up, its quotient is the sample that
-- the move left at k, and of a line that was moved every place has its explanation, and every other number is 7
pub record ToldSample (n kernel k : ℕ) (s room : List ℤ) (x : ExplanationAnswer) (result' : List ℤ) (r : Answer) : Type 0 where
  pub shown : x.number ≡ 0 → Shown n kernel s (record { terms = x.terms; sum = x.sum; divisor = x.divisor; quotient = x.quotient })
  pub sample : x.number ≡ 0 → r.number ≡ 0 → x.quotient ≡ line result' k
  pub none_left_out : r.number ≡ 0 → 6 * n ≤ length room → x.number ≡ cond (leb n k) 7 0
