-- What an asking and a commit on its ticket promise together, and what a commit on any ticket does. Assumes nothing.
use Rattle.std.specs.Prelude.{ℕ, ◌*◌, ◌≡◌, false, List, ℤ, length, take, Result, Err}
use Rattle.refusals.specs.declared.Refusal.{Refusal}
use Rattle.refusals.specs.declared.Refusal.TheVariants.{OtherSize}
use Rattle.refusals.specs.Tests.{bad_size}
use Rattle.refusals.specs.Judging.{accepted, number_of, when_accepted}
use Rattle.settings.specs.declared.Setting.{Setting}
use Rattle.passes.specs.Count.{count}
use Rattle.exact.specs.Limits.{Demand3}
use Rattle.acceptance.specs.Judge.{too_short}
use Rattle.pictures.specs.Answer.{Outcome, count_of, kernel_in, row_moves, column_moves, verdict_of, Answer}
use Rattle.tickets.specs.declared.Ticket.{Ticket}
use Rattle.tickets.specs.Ticket.{ticket_in, Asking, commit_verdict, Committed}

-- an accepted asking, and then a commit on its ticket; between the two the picture and the buffers may have been filled anew
pub record TwoCalls (W H : ℕ) (s : Setting) (asked-picture asked-result asked-work : List ℤ) (a : Result Ticket Refusal)
    (picture result work : List ℤ) (r : Outcome) (result' work' : List ℤ) : Type 0 where
  pub asking : Asking W H s asked-picture asked-result asked-work a
  pub accepted : number_of a ≡ 0
  pub commit : Committed (ticket_in s a) W H picture result work r result' work'

-- what the two promise: the commit is the single call on the picture and the buffers as they stand at the commit, so these are judged and
-- straightened; its count is the one that the ticket told; and demand 3 is about the picture as it stands at the commit. Nothing is promised of the
-- picture and the buffers that were asked about
pub record Kept (W H : ℕ) (s : Setting) (asked-picture asked-result asked-work : List ℤ) (a : Result Ticket Refusal)
    (picture result work : List ℤ) (r : Outcome) (result' work' : List ℤ) : Type 0 where
  pub answer : Answer W H s picture result work r result' work'
  pub count : count_of r ≡ when_accepted (verdict_of W H s picture result work) (ticket_in s a).count 0
  pub demand3 : verdict_of W H s picture result work ≡ accepted
      → Demand3 s.border (kernel_in s) W H (row_moves s) (column_moves s) picture (take (W * H) result')

-- what a commit on any ticket does, whoever made it up: of the size given, it is the single call with the ticket's setting; of another, it is refused
-- under 14, unless 1 or 2 applies, and writes nothing; and its count is its own, whatever the ticket tells
pub record OnAnyTicket (t : Ticket) (W H : ℕ) (picture result work : List ℤ) (r : Outcome) (result' work' : List ℤ) : Type 0 where
  pub same_size : W ≡ t.width → H ≡ t.height → Answer W H t.setting picture result work r result' work'
  pub size_other : ((W ≡ t.width) × (H ≡ t.height) → ⊥) → bad_size W H ≡ false → too_short W H (length picture) (length result) (length work) ≡ false
      → (r ≡ Err OtherSize) × (result' ≡ result) × (work' ≡ work)
  pub count : count_of r
      ≡ when_accepted (commit_verdict t W H picture result work) (count t.setting.border W H (row_moves t.setting) (column_moves t.setting)) 0
