-- A ticket that C or Rust holds stands for the ticket that the asking answered, so what an asking and a commit promise together holds of the exported
-- calls. Assumes nothing.
use Prim.Native.Nat.{ℕ}
use mathlib.Core.Path.{◌≡◌, sym, ap, ◌∙◌, subst}
use mathlib.Core.Bool.{cond}
use mathlib.Core.List.{List}
use lib.IntN.{ℤ}
use lib.ListN.{length}
use Rattle.std.specs.Prelude.{Result}
use Rattle.refusals.specs.Tests.{bad_size}
use Rattle.refusals.specs.declared.Refusal.{Refusal}
use Rattle.settings.specs.declared.Setting.{Setting}
use Rattle.acceptance.specs.Judge.{too_short}
use Rattle.pictures.specs.Answer as straightened
use Rattle.pictures.specs.Answer.{Outcome}
use Rattle.pictures.proofs.Call.{answered_once}
use Rattle.tickets.specs.declared.Ticket.{Ticket}
use Rattle.tickets.specs.Ticket.{ticket_in, Asking, Committed}
use Rattle.tickets.specs.TwoCalls.{Kept}
use Rattle.tickets.proofs.TwoCalls.{kept, refused_ticket}
use Rattle.flat.specs.declared.FlatSetting.{FlatSetting}
use Rattle.flat.specs.declared.FlatAsked.{FlatAsked}
use Rattle.flat.specs.declared.Answer.{Answer}
use Rattle.flat.specs.Exported.{Exported, setting_of, ticket_of, of_asked, of_outcome}

-- a flat ticket stands for the ticket that was laid out, where its setting is the one that was asked
pub ticket_means : (s : FlatSetting) (a : Result Ticket Refusal) → (ticket_in (setting_of s) a).setting ≡ setting_of s
    → ticket_of (of_asked s a).ticket ≡ ticket_in (setting_of s) a
ticket_means s a e =
    let t = ticket_in (setting_of s) a in
    ap (λ (u : Setting). record { width = t.width; height = t.height; setting = u; count = t.count }) (sym e)

abbrev number : FlatAsked → ℕ
number f = f.number

-- so does the one that an asking hands back
told_ticket : (s : FlatSetting) {W H : ℕ} {picture result work : List ℤ} {f : FlatAsked} (asked : Exported (of_asked s) (Asking W H (setting_of s) picture result work) f)
    → ticket_of f.ticket ≡ ticket_in (setting_of s) asked.outcome
told_ticket s asked = ap (λ (f : FlatAsked). ticket_of f.ticket) asked.answer ∙ ticket_means s asked.outcome asked.promised.setting

-- an asking that answers 0, and then a commit on its ticket
pub asked_then_committed : (s : FlatSetting) {W H : ℕ} {asked-picture asked-result asked-work : List ℤ} {f : FlatAsked}
    (asked : Exported (of_asked s) (Asking W H (setting_of s) asked-picture asked-result asked-work) f) → f.number ≡ 0
    → (picture result work : List ℤ) (o : Outcome) (result' work' : List ℤ) → Committed (ticket_of f.ticket) W H picture result work o result' work'
    → Kept W H (setting_of s) asked-picture asked-result asked-work asked.outcome picture result work o result' work'
asked_then_committed s {W} {H} {f = f} asked zero picture result work o result' work' commit =
    kept
    (record {
      asking = asked.promised;
      accepted = sym (ap number asked.answer) ∙ zero;
      commit = subst (λ (t : Ticket). Committed t W H picture result work o result' work') (told_ticket s asked) commit;
    })

-- the commit answers the struct that the single call answers, and leaves the buffers that it leaves
pub committed_as_single : (s : FlatSetting) {W H : ℕ} {asked-picture asked-result asked-work : List ℤ} {f : FlatAsked}
    → Exported (of_asked s) (Asking W H (setting_of s) asked-picture asked-result asked-work) f → f.number ≡ 0
    → (picture result work : List ℤ) {result' work' result₂ work₂ : List ℤ} {r r₂ : Answer}
    → Exported of_outcome (λ o. Committed (ticket_of f.ticket) W H picture result work o result' work') r
    → Exported of_outcome (λ o. straightened.Answer W H (setting_of s) picture result work o result₂ work₂) r₂
    → (r ≡ r₂) × (result' ≡ result₂) × (work' ≡ work₂)
committed_as_single s asked zero picture result work {result'} {work'} commit single =
    let k = asked_then_committed s asked zero picture result work commit.outcome result' work' commit.promised in
    let once = answered_once k.answer single.promised in
    (commit.answer ∙ ap of_outcome once.0 ∙ sym single.answer, once.1, once.2)

-- the ticket of an asking that answers another number is refused under 14, unless 1 or 2 applies, and nothing is written
pub refused_then_committed : (s : FlatSetting) {W H : ℕ} {asked-picture asked-result asked-work : List ℤ} {f : FlatAsked}
    → Exported (of_asked s) (Asking W H (setting_of s) asked-picture asked-result asked-work) f → (f.number ≡ 0 → ⊥)
    → (W₂ H₂ : ℕ) (picture result work : List ℤ) {result' work' : List ℤ} {r : Answer}
    → Exported of_outcome (λ o. Committed (ticket_of f.ticket) W₂ H₂ picture result work o result' work') r
    → (r.number ≡ cond (bad_size W₂ H₂) 1 (cond (too_short W₂ H₂ (length picture) (length result) (length work)) 2 14)) × (result' ≡ result) × (work' ≡ work)
refused_then_committed s {f = f} asked refused W₂ H₂ picture result work {result'} {work'} commit =
    let told = refused_ticket asked.promised (λ e. refused (ap number asked.answer ∙ e)) W₂ H₂ picture result work
    commit.outcome result' work' (subst (λ (t : Ticket). Committed t W₂ H₂ picture result work commit.outcome result' work') (told_ticket s asked) commit.promised) in
    (ap (λ (r : Answer). r.number) commit.answer ∙ told.0, told.1, told.2)
