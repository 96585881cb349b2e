-- What an asking and a commit promise together, and a commit on any ticket. Assumes nothing.
use Prim.Native.Nat.{ℕ, ◌≤◌}
use mathlib.Core.Path.{◌≡◌, refl, sym, ap, ◌∙◌}
use mathlib.Core.Bool.{Bool, true, false, cond}
use mathlib.Core.List.{List}
use native.Mathlib.Omega.{arith}
use borrow.Author.Tests.{eqb-true, eq-eqb}
use lib.Dec.{eqb}
use lib.IntN.{ℤ}
use lib.ListN.{length}
use Rattle.std.specs.Prelude.{Result, Ok, Err}
use Rattle.refusals.specs.declared.Refusal.{Refusal}
use Rattle.refusals.specs.declared.Refusal.TheVariants.{BadSize, TooShort, OtherSize}
use Rattle.refusals.specs.Tests.{bad_size}
use Rattle.refusals.specs.Judging.{Verdict, accepted, refused_if, answer_by, number_of, when_accepted}
use Rattle.refusals.proofs.Tests.{size_good}
use Rattle.settings.specs.declared.Setting.{Setting}
use Rattle.passes.specs.Count.{count}
use Rattle.acceptance.specs.Judge.{too_short, judged_on}
use Rattle.acceptance.proofs.Accepted.{answered_zero}
use Rattle.pictures.specs.Answer.{Outcome, row_moves, column_moves, verdict_of, Answer}
use Rattle.pictures.proofs.Call.{refused-answer, answered_once}
use Rattle.tickets.specs.declared.Ticket.{Ticket}
use Rattle.tickets.specs.Ticket.{ticket_in, Asking, other_size, commit_verdict, Committed}
use Rattle.tickets.specs.TwoCalls.{TwoCalls, Kept, OnAnyTicket}

-- ---- number 14 applies just where a side is another than the ticket's
pub size_same : (W H : ℕ) (t : Ticket) → W ≡ t.width → H ≡ t.height → other_size W H t ≡ false
unfolding other_size
size_same W H t ew eh = rw (eq-eqb W t.width ew, eq-eqb H t.height eh) refl

differs : (W H : ℕ) (t : Ticket) (a b : Bool) → eqb W t.width ≡ a → eqb H t.height ≡ b → ((W ≡ t.width) × (H ≡ t.height) → ⊥) → other_size W H t ≡ true
unfolding other_size
differs W H t true true p q other = absurd (other (eqb-true W t.width p, eqb-true H t.height q))
differs W H t true false p q other = rw (p, q) refl
differs W H t false b p q other = rw p refl

pub size_other_lem : (W H : ℕ) (t : Ticket) → ((W ≡ t.width) × (H ≡ t.height) → ⊥) → other_size W H t ≡ true
size_other_lem W H t other = differs W H t (eqb W t.width) (eqb H t.height) refl refl other

-- what is told where a ticket is of another size: 14, unless 1 or 2 applies
abbrev turned_away : Bool → Bool → Verdict
turned_away bad short = refused_if bad BadSize (refused_if short TooShort (Err OtherSize))

turned_away_lem : (W H : ℕ) (t : Ticket) (picture result work : List ℤ) → other_size W H t ≡ true
    → commit_verdict t W H picture result work ≡ turned_away (bad_size W H) (too_short W H (length picture) (length result) (length work))
unfolding judged_on
turned_away_lem W H t picture result work e = rw e refl

-- ---- an accepted asking, and then a commit on its ticket
module _ {W H : ℕ} {s : Setting} {asked-picture asked-result asked-work : List ℤ} {a : Result Ticket Refusal} {picture result work : List ℤ} {r : Outcome} {result' work' : List ℤ}
    (two : TwoCalls W H s asked-picture asked-result asked-work a picture result work r result' work') where
  was_accepted : verdict_of W H s asked-picture asked-result asked-work ≡ accepted
  was_accepted = answered_zero (verdict_of W H s asked-picture asked-result asked-work) (ticket_in s a) (sym (ap number_of two.asking.verdict) ∙ two.accepted)

  told_size : other_size W H (ticket_in s a) ≡ false
  told_size =
      let t = ticket_in s a in
      let w : t.width ≡ W = two.asking.width ∙ rw was_accepted refl in
      let h : t.height ≡ H = two.asking.height ∙ rw was_accepted refl in
      size_same W H t (sym w) (sym h)

  told-count : (ticket_in s a).count ≡ count s.border W H (row_moves s) (column_moves s)
  told-count = two.asking.count ∙ rw was_accepted refl

  as_single : Answer W H s picture result work r result' work'
  as_single = rw (told_size, two.asking.setting) at two.commit

  pub kept : Kept W H s asked-picture asked-result asked-work a picture result work r result' work'
  kept =
      record {
        answer = as_single;
        count = as_single.count ∙ ap (λ (n : ℕ). when_accepted (verdict_of W H s picture result work) n 0) (sym told-count);
        demand3 = as_single.demand3;
      }

  -- the single call on the same picture and buffers comes to the same, and leaves the same
  pub same_as_single : (r₂ : Outcome) (result₂ work₂ : List ℤ) → Answer W H s picture result work r₂ result₂ work₂
      → (r ≡ r₂) × (result' ≡ result₂) × (work' ≡ work₂)
  same_as_single r₂ result₂ work₂ single = answered_once as_single single

-- ---- a commit on any ticket
module _ (t : Ticket) {W H : ℕ} {picture result work : List ℤ} {r : Outcome} {result' work' : List ℤ} (commit : Committed t W H picture result work r result' work') where
  pub on_any_ticket : OnAnyTicket t W H picture result work r result' work'
  on_any_ticket =
      record {
        same_size = λ w h. rw (size_same W H t w h) at commit;
        size_other = λ other size long.
            answered_once (rw (turned_away_lem W H t picture result work (size_other_lem W H t other), size, long) at commit)
            (refused-answer (Err OtherSize) W H t.setting picture result work OtherSize refl);
        count = commit.count;
      }

  -- with any other count in the ticket the commit is the same
  pub any_count : (n : ℕ) → Committed (record { width = t.width; height = t.height; setting = t.setting; count = n }) W H picture result work r result' work'
  unfolding other_size
  any_count n = commit

-- ---- the ticket of a refused asking is of no picture's size
no_picture : (W H : ℕ) (t : Ticket) (picture result work : List ℤ) → t.width ≡ 0 → (bad : Bool) → bad_size W H ≡ bad
    → commit_verdict t W H picture result work ≡ turned_away (bad_size W H) (too_short W H (length picture) (length result) (length work))
unfolding judged_on
no_picture W H t picture result work none true e = rw e refl
no_picture W H t picture result work none false e = turned_away_lem W H t picture result work (size_other_lem W H t (λ same. none_such (size_good e).0.0 same.0 none))
  where
    none_such : {w : ℕ} → 1 ≤ W → W ≡ w → w ≡ 0 → ⊥
    none_such some same none = omega arith

told_number : (bad short : Bool) → number_of (turned_away bad short) ≡ cond bad 1 (cond short 2 14)
told_number true short = refl
told_number false true = refl
told_number false false = refl

left_alone : {A : Type 0} (bad short : Bool) (new old : A) → when_accepted (turned_away bad short) new old ≡ old
left_alone true short new old = refl
left_alone false true new old = refl
left_alone false false new old = refl

told_width : (v : Verdict) (W : ℕ) → (v ≡ accepted → ⊥) → when_accepted v W 0 ≡ 0
told_width (Ok u) W refused = absurd (refused refl)
told_width (Err refusal) W refused = refl

-- so a commit on it is refused under 14, unless 1 or 2 applies, and writes nothing
pub refused_ticket : {W H : ℕ} {s : Setting} {asked-picture asked-result asked-work : List ℤ} {a : Result Ticket Refusal}
    → Asking W H s asked-picture asked-result asked-work a → (number_of a ≡ 0 → ⊥)
    → (W₂ H₂ : ℕ) (picture result work : List ℤ) (r : Outcome) (result' work' : List ℤ) → Committed (ticket_in s a) W₂ H₂ picture result work r result' work'
    → (number_of r ≡ cond (bad_size W₂ H₂) 1 (cond (too_short W₂ H₂ (length picture) (length result) (length work)) 2 14)) × (result' ≡ result) × (work' ≡ work)
refused_ticket {W = W} {s = s} {a = a} asking refused W₂ H₂ picture result work r result' work' commit =
    let t = ticket_in s a in
    let none : t.width ≡ 0 = asking.width ∙ told_width _ W (λ e. refused (ap number_of (asking.verdict ∙ ap (λ (v : Verdict). answer_by v t) e))) in
    let e = no_picture W₂ H₂ t picture result work none (bad_size W₂ H₂) refl in
    let short = too_short W₂ H₂ (length picture) (length result) (length work) in (
      commit.number ∙ ap number_of e ∙ told_number (bad_size W₂ H₂) short,
      commit.written ∙ rw e (left_alone (bad_size W₂ H₂) short _ result),
      commit.cleared ∙ rw e (left_alone (bad_size W₂ H₂) short _ work),
    )
