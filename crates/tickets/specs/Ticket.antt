-- What asking answers, which commits are straightened, and what a commit answers and leaves. Assumes nothing.
use Rattle.std.specs.Prelude.{ℕ, ◌≡◌, Bool, ◌||◌, not, List, eqb, ℤ, length, Result, Ok, Err}
use Rattle.refusals.specs.declared.Refusal.{Refusal}
use Rattle.refusals.specs.Judging.{Verdict, answer_by, when_accepted}
use Rattle.settings.specs.declared.Setting.{Setting}
use Rattle.passes.specs.Count.{count}
use Rattle.acceptance.specs.Judge.{judged_on}
use Rattle.pictures.specs.Answer.{Outcome, row_moves, column_moves, verdict_of, Answered}
use Rattle.tickets.specs.declared.Ticket.{Ticket}

-- the ticket that an asking answers: of a refused one the size is 0 by 0 and the count 0, and the setting as asked
abbrev pub ticket_in : Setting → Result Ticket Refusal → Ticket
ticket_in s (Ok t) = t
ticket_in s (Err refusal) = record { width = 0; height = 0; setting = s; count = 0 }

-- The full answer of asking. The verdict is that of the single call on the same picture and buffers. Accepted, the ticket has the size, the setting
-- and the number of lines that straightening interpolates; refused, the size 0 by 0 and the count 0, with the setting as asked.
pub record Asking (W H : ℕ) (s : Setting) (picture result work : List ℤ) (r : Result Ticket Refusal) : Type 0 where
  pub verdict : r ≡ answer_by (verdict_of W H s picture result work) (ticket_in s r)
  pub width : (ticket_in s r).width ≡ when_accepted (verdict_of W H s picture result work) W 0
  pub height : (ticket_in s r).height ≡ when_accepted (verdict_of W H s picture result work) H 0
  pub setting : (ticket_in s r).setting ≡ s
  pub count : (ticket_in s r).count ≡ when_accepted (verdict_of W H s picture result work) (count s.border W H (row_moves s) (column_moves s)) 0

-- 14: a size other than the ticket's
unfoldable pub other_size : ℕ → ℕ → Ticket → Bool
other_size W H t = not (eqb W t.width) || not (eqb H t.height)

-- what the tests say of a commit: 1 and 2 by the size and the buffers that it is given, 14, then 3, 4, 5 and 12 by the ticket's setting, and 6 by the
-- picture as it stands. The ticket's count is not read
abbrev pub commit_verdict : Ticket → ℕ → ℕ → List ℤ → List ℤ → List ℤ → Verdict
commit_verdict t W H picture result work = judged_on (other_size W H t) W H t.setting picture (length result) (length work)

-- The full answer of a commit: the single call's, under the commit's verdict and the ticket's setting. So the count is worked out anew, and result,
-- extremes and demand 3 are about the picture that the commit is lent.
abbrev pub Committed : Ticket → ℕ → ℕ → List ℤ → List ℤ → List ℤ → Outcome → List ℤ → List ℤ → Type 0
Committed t W H picture result work = Answered (commit_verdict t W H picture result work) W H t.setting picture result work
