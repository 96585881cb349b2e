-- Two moves in a row, and a moved picture straightened, by the structs that C and Rust receive. Assumes nothing.
use Prim.Native.Nat.{ℕ, ◌<◌}
use mathlib.Core.Path.{◌≡◌, sym, ap, ◌∙◌, subst}
use mathlib.Core.Bool.{false}
use mathlib.Core.List.{List}
use lib.IntN.{ℤ}
use Rattle.pictures.specs.Answer.{Answer as PictureStraightened}
use Rattle.arrangements.proofs.Table.{inverse}
use Rattle.quarters.specs.Answer.{Moved, PictureMoved, joined_answer, inverse_answer}
use Rattle.quarters.specs.TwoCalls.{InARow}
use Rattle.quarters.proofs.Accepted.{joined_known, inverse-named}
use Rattle.quarters.proofs.Calls.{was_fit}
use Rattle.quarters.proofs.TwoCalls.{as_one, back_again}
use Rattle.sideways.proofs.Straightened.{moved-straightened}
use Rattle.flat.specs.declared.FlatSetting.{FlatSetting}
use Rattle.flat.specs.declared.Answer.{Answer}
use Rattle.flat.specs.declared.QuarterAnswer.{QuarterAnswer}
use Rattle.flat.specs.declared.Quarter.{Quarter}
use Rattle.flat.specs.Exported.{setting_of, of_moved, of_named}
use Rattle.flat.specs.Quarters.{MoveCall, TwoMoves, ToldAsOne, ToldBack, MoveAndStraighten, ToldSideways}

-- ---- two moves in a row
module _ {W H a b : ℕ} {s mid mid' : List ℤ} {r : QuarterAnswer} {old new : List ℤ} {r₂ : QuarterAnswer} (c : TwoMoves W H a b s mid mid' r old new r₂) where
  abbrev o : Moved
  o = c.first.outcome

  abbrev o₂ : Moved
  o₂ = c.second.outcome

  -- the same by what was laid out
  in_a_row : b < 8 → InARow W H a b s mid mid' o old new o₂
  in_a_row known =
      record {
        first = c.first.promised;
        accepted = ap (λ (x : QuarterAnswer). x.number) (sym c.first.answer) ∙ c.accepted;
        known = known;
        room = c.room;
        second = subst (λ (x : QuarterAnswer). PictureMoved x.width x.height b mid' old new o₂) c.first.answer c.second.promised;
      }

  pub told_as_one : {j : Quarter} {r₁ : QuarterAnswer} {one : List ℤ} → j ≡ of_named (joined_answer a b) → j.number ≡ 0 → MoveCall W H j.value s old one r₁
      → ToldAsOne r₂ new r₁ one
  told_as_one {j} {r₁} {one} e none d =
      let k = joined_known a b (ap (λ (x : Quarter). x.number) (sym e) ∙ none) in
      let named = ap (λ (x : Quarter). x.value) e ∙ k.1 in
      let t = as_one (in_a_row k.0) (subst (λ (n : ℕ). PictureMoved W H n s old one d.outcome) named d.promised) in
      record {
        accepted = ap (λ (x : QuarterAnswer). x.number) c.second.answer ∙ t.accepted;
        answer = c.second.answer ∙ ap of_moved t.answer ∙ sym d.answer;
        result = t.result;
      }

pub told_back : {W H a : ℕ} {s mid mid' : List ℤ} {r : QuarterAnswer} {old new : List ℤ} {r₂ : QuarterAnswer} {j : Quarter}
    → j ≡ of_named (inverse_answer a) → TwoMoves W H a j.value s mid mid' r old new r₂ → ToldBack W H s old new r₂
told_back {W} {H} {a} {s} {mid} {mid'} {r} {old} {new} {r₂} {j} e c =
    let l = (was_fit c.first.promised (ap (λ (x : QuarterAnswer). x.number) (sym c.first.answer) ∙ c.accepted)).1 in
    let named = ap (λ (x : Quarter). x.value) e ∙ inverse-named a l in
    let d = subst (λ (n : ℕ). TwoMoves W H a n s mid mid' r old new r₂) named c in
    let t = back_again (in_a_row d (inverse a l).known) in
    let told = d.second.answer in
    record {
      accepted = ap (λ (x : QuarterAnswer). x.number) told ∙ t.accepted;
      width = ap (λ (x : QuarterAnswer). x.width) told ∙ t.width;
      height = ap (λ (x : QuarterAnswer). x.height) told ∙ t.height;
      result = t.result;
    }

-- ---- a moved picture straightened
module _ {W H m : ℕ} {s mid mid' : List ℤ} {r : QuarterAnswer} {set : FlatSetting} {result work : List ℤ} {q : Answer} {result' work' : List ℤ}
    (c : MoveAndStraighten W H m s mid mid' r set result work q result' work') where
  pub told_sideways : ToldSideways W H m s r set result'
  told_sideways =
      let e = c.first.answer in
      let o = c.first.outcome in
      subst (λ (x : QuarterAnswer). ToldSideways W H m s x set result') (sym e)
      (moved-straightened {other = false} (record {
        first = c.first.promised;
        first_accepted = ap (λ (x : QuarterAnswer). x.number) (sym e) ∙ c.first_accepted;
        second = subst (λ (x : QuarterAnswer). PictureStraightened x.width x.height (setting_of set) mid' result work c.second.outcome result' work') e c.second.promised;
        second_accepted = ap (λ (x : Answer). x.number) (sym c.second.answer) ∙ c.second_accepted;
      })).demand3
