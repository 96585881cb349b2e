-- What C and Rust are told by structs of numbers: linear keeps the range of the samples and the background, and a number that is added to all of them is added
-- to every sample of the result, under the spline to within 13 units, or 1 of a line (Q-12). Assumes nothing.
use Prim.Native.Nat.{ℕ, zero, suc, ◌*◌}
use mathlib.Core.Path.{◌≡◌, refl, sym, ap, ◌∙◌, subst}
use mathlib.Core.Bool.{Bool}
use mathlib.Core.List.{List}
use lib.IntN.{ℤ, ◌+ℤ◌}
use Rattle.refusals.proofs.Judging.{accepted_by_zero}
use Rattle.settings.specs.declared.Border.{Border}
use Rattle.settings.specs.declared.Setting.{Setting}
use Rattle.settings.specs.Setting.{with_border}
use Rattle.moves.specs.Range.{raised, Raised}
use Rattle.lines.specs.Answer.{LineMoved}
use Rattle.lines.proofs.Raised.{line-raised}
use Rattle.pictures.specs.Answer.{AnswerOn}
use Rattle.pictures.proofs.Raised.{picture-raised}
use Rattle.tickets.specs.Ticket.{other_size, Committed}
use Rattle.flat.specs.declared.FlatSetting.{FlatSetting}
use Rattle.flat.specs.declared.FlatTicket.{FlatTicket}
use Rattle.flat.specs.declared.Answer.{Answer}
use Rattle.flat.specs.Exported.{Exported, border_of, setting_of, ticket_of, of_outcome, of_line}
use Rattle.flat.specs.Range.{ToldInRange, raised_as, ToldRaised}

-- ---- c added to the background
border_raised : (c : ℤ) (border : ℕ) (background : ℤ) → border_of border (background +ℤ c) ≡ raised c (border_of border background)
border_raised c zero background = refl
border_raised c (suc n) background = refl

setting_raised : (c : ℤ) (s : FlatSetting) → setting_of (raised_as c s) ≡ with_border (setting_of s) (raised c (setting_of s).border)
setting_raised c s = ap (with_border (setting_of s)) (border_raised c s.border s.background)

-- what was laid out as number 0 has number 0
pub zero-laid : {O : Type 0} {flattened : O → Answer} {Promised : O → Type 0} {r : Answer} (call : Exported flattened Promised r) → r.number ≡ 0
    → (flattened call.outcome).number ≡ 0
zero-laid call accepted = ap (λ (r : Answer). r.number) (sym call.answer) ∙ accepted

-- ---- straightening, by the single call or by a commit
module _ (other : Bool) (W H : ℕ) (s : FlatSetting) (picture result work : List ℤ) {result' work' : List ℤ} {r : Answer}
    (call : Exported of_outcome (λ o. AnswerOn other W H (setting_of s) picture result work o result' work') r) (accepted : r.number ≡ 0) where
  pub picture-range-told : s.kernel ≡ 0 → ToldInRange (setting_of s).border (W * H) picture result' r
  picture-range-told linear =
      let p = call.promised in
      let v = accepted_by_zero _ (sym p.number ∙ zero-laid call accepted) in
      let told = p.told_in_range v linear in
      record { each = p.no_overshoot v linear; smallest = rw call.answer told.0; largest = rw call.answer told.1 }

  module _ (other₂ : Bool) (c : ℤ) (picture₂ result₂ work₂ : List ℤ) {result₂' work₂' : List ℤ} {r₂ : Answer}
      (call₂ : Exported of_outcome (λ o. AnswerOn other₂ W H (setting_of (raised_as c s)) picture₂ result₂ work₂ o result₂' work₂') r₂) (accepted₂ : r₂.number ≡ 0) where
    pub picture-raised-told : Raised c (W * H) picture picture₂ → ToldRaised s.kernel 13 c (W * H) result' r result₂' r₂
    picture-raised-told added =
        let two = picture-raised (record {
          first = call.promised;
          second = subst (λ (u : Setting). AnswerOn other₂ W H u picture₂ result₂ work₂ call₂.outcome result₂' work₂') (setting_raised c s) call₂.promised;
          first_accepted = zero-laid call accepted;
          second_accepted = zero-laid call₂ accepted₂;
          added = added;
        }) in
        rw (call.answer, call₂.answer) (record { each = two.samples; smallest = two.smallest; largest = two.largest; nearly = two.nearly; count = two.count })

-- a commit is such a call
pub commit-range-told : (t : FlatTicket) (W H : ℕ) (picture result work : List ℤ) {result' work' : List ℤ} {r : Answer}
    → Exported of_outcome (λ o. Committed (ticket_of t) W H picture result work o result' work') r → r.number ≡ 0 → t.setting.kernel ≡ 0
    → ToldInRange (setting_of t.setting).border (W * H) picture result' r
commit-range-told t W H picture result work = picture-range-told (other_size W H (ticket_of t)) W H t.setting picture result work

-- and so are two, whatever sizes and counts their tickets tell
pub commit-raised-told : (c : ℤ) (s : FlatSetting) (w h n w₂ h₂ n₂ : ℕ) (W H : ℕ) (picture result work picture₂ result₂ work₂ : List ℤ)
    {result' work' result₂' work₂' : List ℤ} {r r₂ : Answer}
    → Exported of_outcome (λ o. Committed (ticket_of (record { width = w; height = h; setting = s; count = n })) W H picture result work o result' work') r → r.number ≡ 0
    → Exported of_outcome (λ o. Committed (ticket_of (record { width = w₂; height = h₂; setting = raised_as c s; count = n₂ })) W H picture₂ result₂ work₂ o result₂' work₂') r₂
    → r₂.number ≡ 0 → Raised c (W * H) picture picture₂ → ToldRaised s.kernel 13 c (W * H) result' r result₂' r₂
commit-raised-told c s w h n w₂ h₂ n₂ W H picture result work picture₂ result₂ work₂ call accepted call₂ accepted₂ =
    picture-raised-told (other_size W H (ticket_of (record { width = w; height = h; setting = s; count = n }))) W H s picture result work call accepted
    (other_size W H (ticket_of (record { width = w₂; height = h₂; setting = raised_as c s; count = n₂ }))) c picture₂ result₂ work₂ call₂ accepted₂

-- ---- one line
module _ (n kernel : ℕ) (d : ℤ) (border : ℕ) (background : ℤ) (samples result work : List ℤ) {result' work' : List ℤ} {r : Answer}
    (call : Exported of_line (λ o. LineMoved n kernel d (border_of border background) samples result work result' work' o) r) (accepted : r.number ≡ 0) where
  pub line-range-told : kernel ≡ 0 → ToldInRange (border_of border background) n samples result' r
  line-range-told linear =
      let p = call.promised in
      let v = accepted_by_zero _ (sym p.number ∙ zero-laid call accepted) in
      let told = p.told_in_range v linear in
      record { each = p.no_overshoot v linear; smallest = rw call.answer told.0; largest = rw call.answer told.1 }

  module _ (c : ℤ) (samples₂ result₂ work₂ : List ℤ) {result₂' work₂' : List ℤ} {r₂ : Answer}
      (call₂ : Exported of_line (λ o. LineMoved n kernel d (border_of border (background +ℤ c)) samples₂ result₂ work₂ result₂' work₂' o) r₂) (accepted₂ : r₂.number ≡ 0) where
    pub line-raised-told : Raised c n samples samples₂ → ToldRaised kernel 1 c n result' r result₂' r₂
    line-raised-told added =
        let two = line-raised (record {
          first = call.promised;
          second = subst (λ (β : Border). LineMoved n kernel d β samples₂ result₂ work₂ result₂' work₂' call₂.outcome) (border_raised c border background) call₂.promised;
          first_accepted = zero-laid call accepted;
          second_accepted = zero-laid call₂ accepted₂;
          added = added;
        }) in
        rw (call.answer, call₂.answer) (record { each = two.samples; smallest = two.smallest; largest = two.largest; nearly = two.nearly; count = two.count })
