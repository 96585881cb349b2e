-- What a forecast and a straightening promise together holds of the structs that C and Rust receive. Assumes nothing.
use Prim.Native.Nat.{ℕ, ◌≤◌}
use mathlib.Core.Path.{◌≡◌, refl, sym, ap, ◌∙◌}
use mathlib.Core.Bool.{Bool}
use mathlib.Core.List.{List}
use borrow.Author.Tests.{le-ltb}
use lib.IntN.{ℤ}
use Rattle.refusals.specs.Judging.{number_of}
use Rattle.pictures.specs.Answer.{AnswerOn}
use Rattle.tickets.specs.Ticket.{other_size, Committed}
use Rattle.forecasts.specs.Figures.{forecast_of}
use Rattle.forecasts.specs.TwoCalls.{Kept}
use Rattle.forecasts.proofs.TwoCalls.{kept}
use Rattle.flat.specs.declared.FlatSetting.{FlatSetting}
use Rattle.flat.specs.declared.FlatTicket.{FlatTicket}
use Rattle.flat.specs.declared.ForecastAnswer.{ForecastAnswer}
use Rattle.flat.specs.declared.Answer.{Answer}
use Rattle.flat.specs.Exported.{Exported, setting_of, ticket_of, of_outcome, of_forecast}
use Rattle.flat.specs.Ahead.{ToldAhead}
use Rattle.flat.proofs.Range.{zero-laid}

module _ (other : Bool) (W H M : ℕ) (s : FlatSetting) (picture result work : List ℤ) {result' work' : List ℤ} {f : ForecastAnswer} {r : Answer}
    (forecast : f ≡ of_forecast (forecast_of W H (setting_of s) M))
    (call : Exported of_outcome (λ o. AnswerOn other W H (setting_of s) picture result work o result' work') r) where
  both : Kept other W H M (forecast_of W H (setting_of s) M) picture result work call.outcome result' work'
  both = kept (record { forecast = refl; straightening = call.promised })

  accepted : f.number ≡ 0 → number_of (forecast_of W H (setting_of s) M) ≡ 0
  accepted zero = sym (ap (λ (f : ForecastAnswer). f.number) forecast) ∙ zero

  pub told_ahead : f.number ≡ 0 → ToldAhead other W H M f picture result work r result' work'
  told_ahead zero =
      let h = both.holds (accepted zero) in
      rw (forecast, call.answer) (record {
        count = h.count;
        bound = h.bound;
        extremes = h.extremes;
        short = λ less. let refused = h.short less in (ap number_of refused.0, refused.1, refused.2);
        enough = h.enough;
      })

  -- a straightening that answers number 0 has a forecast of number 0, unless M is over 32,767
  pub told_of_every : M ≤ 32767 → r.number ≡ 0 → f.number ≡ 0
  told_of_every few done =
      ap (λ (f : ForecastAnswer). f.number) forecast ∙ ap number_of (both.none_left_out (zero-laid call done)) ∙ rw (le-ltb 32767 M few) refl

-- a commit is such a straightening, whatever size and count its ticket tells
pub told_ahead_of_commit : (W H M : ℕ) (t : FlatTicket) (picture result work : List ℤ) {result' work' : List ℤ} {f : ForecastAnswer} {r : Answer}
    → f ≡ of_forecast (forecast_of W H (setting_of t.setting) M)
    → Exported of_outcome (λ o. Committed (ticket_of t) W H picture result work o result' work') r
    → f.number ≡ 0 → ToldAhead (other_size W H (ticket_of t)) W H M f picture result work r result' work'
told_ahead_of_commit W H M t picture result work forecast call = told_ahead (other_size W H (ticket_of t)) W H M t.setting picture result work forecast call
