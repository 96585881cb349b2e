-- What an explanation and a move promise together holds of the structs that C and Rust receive. Assumes nothing.
use mathlib.Core.Path.{◌≡◌, refl, sym, ap, ◌∙◌}
use mathlib.Core.Bool.{Bool, true, false, cond}
use mathlib.Core.List.{List}
use Prim.Native.Nat.{ℕ}
use lib.Dec.{leb}
use lib.IntN.{ℤ}
use Rattle.std.specs.Prelude.{Ok}
use Rattle.refusals.specs.declared.Refusal.TheVariants.{Outside}
use Rattle.refusals.specs.Judging.{refused_if, number_of}
use Rattle.lines.specs.Answer.{LineMoved}
use Rattle.explanations.specs.declared.Parts.{Parts}
use Rattle.explanations.specs.Answer.{Explained}
use Rattle.explanations.specs.TwoCalls.{Agreed}
use Rattle.explanations.proofs.TwoCalls.{agreed}
use Rattle.flat.specs.declared.ExplanationAnswer.{ExplanationAnswer}
use Rattle.flat.specs.declared.Answer.{Answer}
use Rattle.flat.specs.Exported.{Exported, border_of, of_line, of_explanation}
use Rattle.flat.specs.Sample.{ToldSample}

own_number : (t : Bool) (p : Parts) → number_of (refused_if t Outside (Ok p)) ≡ cond t 7 0
own_number true p = refl
own_number false p = refl

module _ {n kernel : ℕ} {d : ℤ} {k : ℕ} {s room room' : List ℤ} {x : ExplanationAnswer} (explaining : Exported of_explanation (Explained n kernel d k s room room') x)
    (background : ℤ) {result work result' work' : List ℤ} {r : Answer} (moving : Exported of_line (LineMoved n kernel d (border_of 0 background) s result work result' work') r) where
  accepted : x.number ≡ 0 → number_of explaining.outcome ≡ 0
  accepted zero = sym (ap (λ (y : ExplanationAnswer). y.number) explaining.answer) ∙ zero

  both : Agreed n k room explaining.outcome result' moving.outcome
  both = agreed (record { explaining = explaining.promised; moving = moving.promised })

  moved-zero : r.number ≡ 0 → number_of moving.outcome ≡ 0
  moved-zero zero = sym (ap (λ (y : Answer). y.number) moving.answer) ∙ zero

  pub told_sample : ToldSample n kernel k s room x result' r
  told_sample =
      record {
        shown = λ zero. rw explaining.answer (explaining.promised.shown (accepted zero));
        sample = λ zero done. ap (λ (y : ExplanationAnswer). y.quotient) explaining.answer ∙ both.sample (accepted zero) (moved-zero done);
        none_left_out = λ done h.
            ap (λ (y : ExplanationAnswer). y.number) explaining.answer ∙ ap number_of (both.none_left_out (moved-zero done) h) ∙ own_number (leb n k) _;
      }
