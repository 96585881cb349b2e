-- An explanation and a move of the same line agree. Assumes nothing.
use mathlib.Core.Path.{◌≡◌, refl, sym, ap, ◌∙◌}
use mathlib.Core.Bool.{Bool, true, false}
use mathlib.Core.List.{List}
use Prim.Native.Nat.{ℕ, ◌*◌, ◌≤◌}
use lib.Dec.{leb}
use lib.IntN.{ℤ}
use lib.ListN.{length}
use Rattle.std.specs.Prelude.{Result, Ok, Err}
use Rattle.refusals.specs.declared.Refusal.{Refusal}
use Rattle.refusals.specs.declared.Refusal.TheVariants.{Outside}
use Rattle.refusals.specs.Judging.{Verdict, accepted, refused_if, answer_by, number_of}
use Rattle.refusals.proofs.Judging.{accepted_by_zero}
use Rattle.lines.specs.declared.Moved.{Moved}
use Rattle.lines.specs.Answer.{Passed}
use Rattle.lines.proofs.Answer.{only_own, was_movable, was_known, was_moved}
use Rattle.explanations.specs.declared.Parts.{Parts}
use Rattle.explanations.specs.Answer.{judged, explanation_of, parts_of_answer}
use Rattle.explanations.specs.TwoCalls.{TwoCalls, Agreed}
use Rattle.explanations.proofs.Call.{explainable}

-- an answer has the verdict's number, and is Ok but where its own test refuses
number_is : {A : Type 0} (v : Verdict) (a : A) → number_of (answer_by v a) ≡ number_of v
number_is (Ok u) a = refl
number_is (Err refusal) a = refl

own_alone : (t : Bool) (p : Parts)
    → answer_by (refused_if t Outside accepted) p ≡ refused_if t Outside (Ok (parts_of_answer (answer_by (refused_if t Outside accepted) p)))
own_alone true p = refl
own_alone false p = refl

module _ {n kernel : ℕ} {d : ℤ} {k : ℕ} {s room room' : List ℤ} {x : Result Parts Refusal} {result work result' work' : List ℤ} {r : Result Moved Refusal}
    (two : TwoCalls n kernel d k s room room' x result work result' work' r) where
  was_accepted : number_of x ≡ 0 → judged n kernel d k s (length room) ≡ accepted
  unfolding explanation_of
  was_accepted zero = accepted_by_zero _ (sym (number_is (judged n kernel d k s (length room)) _) ∙ ap number_of (sym two.explaining.answer) ∙ zero)

  -- every test but that of the place was passed by the move, too
  passed : number_of r ≡ 0 → 6 * n ≤ length room → Passed n d s (length s) (length room)
  passed zero h =
      let m = was_movable two.moving zero in
      record { some = m.some; few = m.few; held_room = m.line_room; work_room = h; near = m.near; samples = m.samples }

  alone : number_of r ≡ 0 → 6 * n ≤ length room → judged n kernel d k s (length room) ≡ refused_if (leb n k) Outside accepted
  unfolding judged
  alone zero h = only_own n kernel d (refused_if (leb n k) Outside accepted) s (length s) (length room) (was_known two.moving zero) (passed zero h)

  pub agreed : Agreed n k room x result' r
  unfolding explanation_of
  agreed =
      record {
        sample = λ told zero. two.explaining.moved told ∙ sym (was_moved two.moving zero k (explainable n kernel d k s (length room) (was_accepted told)).inside);
        none_left_out = λ zero h. rw (two.explaining.answer, alone zero h) (own_alone (leb n k) _);
      }
