-- What the straightener answers for a line that the tests accept, and what a well-formed line is answered. Assumes nothing.
use Prim.Native.Nat.{ℕ, ◌*◌, ◌≤◌, max}
use mathlib.Core.Bool.{true}
use mathlib.Core.List.{List, ◌++◌, append-nil}
use mathlib.Core.Path.{◌≡◌, refl, sym, ap, ap₂, ◌∙◌}
use native.Mathlib.Omega.{arith}
use lib.IntN.{ℤ, pos}
use lib.ListN.{length, take, drop, replicate, drop_of_length-le, take-append-drop}
use lib.Seq.{take_all, take_at}
use Rattle.std.specs.Prelude.{Result, Ok, Err}
use Rattle.std.specs.Result.{result_unwrap_or}
use Rattle.lists.specs.Tab.{tab}
use Rattle.lists.proofs.Tab.{tab-length}
use Rattle.refusals.specs.Judging.{number, place, accepted, when_accepted}
use Rattle.refusals.specs.declared.Refusal.{Refusal}
use Rattle.settings.specs.declared.Setting.{Setting}
use Rattle.passes.specs.Picture.{straighten}
use Rattle.pictures.specs.Answer as answer
use Rattle.pictures.specs.Answer.{Outcome, outcome_of, row_moves, column_moves, verdict_of}
use Rattle.pictures.specs.declared.Straightened as answered
use Rattle.format.specs.Line.{step_in, width_in, height_in, size_in, well_formed, sample_at, samples_in}
use Rattle.format.specs.Answer.{unchanged_in, number_of, setting_in, count_of, straightened_of, refusal_text, accepted_text, judged_text, answer_of}
use Rattle.format.specs.Room.{Written}
use Rattle.format.specs.Answered.{judged, work_in, Straightened, Answered, written_bytes}
use Rattle.format.proofs.Outcome.{accepted_in, refused_in, none_refused, verdict_accepted, straightened-length}
use Rattle.format.proofs.Judged.{well, samples_within, answer-accepted, answer-refused, refused_number, accepted-line, refused-line, line_fitted}

-- the bytes of an answer, 0 where it does not fit
pub bytes_or : (r : Result ℕ Refusal) → result_unwrap_or r 0 ≡ written_bytes r
bytes_or (Ok n) = refl
bytes_or (Err refusal) = refl

-- a line that the tests refuse leaves all as it was
pub refused : {l : List ℕ} {w h : ℕ} {refusal : Refusal} (picture result work : List ℤ) → w ≡ width_in l → h ≡ height_in l
    → judged w h (unchanged_in l) (step_in l) (setting_in l) ≡ Err refusal → Straightened l picture result work picture result work (Err refusal)
refused {l} {refusal = refusal} picture result work width height e =
    record {
      told = sym (refused_in l (setting_in l) (count_of l) refusal (rw (width, height) at e));
      samples = refl;
      straightened = refl;
      cleared = refl;
    }

-- a call of the straightener for a line that the tests accept, with what it answers
pub record Called (l : List ℕ) (w h : ℕ) (s : Setting) (picture result work result' work' : List ℤ) (o : Outcome) : Type 0 where
  pub well : well_formed l ≡ true
  pub width : w ≡ width_in l
  pub height : h ≡ height_in l
  pub accepts : judged w h (unchanged_in l) (step_in l) (setting_in l) ≡ Ok s
  pub filled : picture ≡ tab (sample_at l) (size_in l)
  pub result_places : length result ≡ size_in l
  pub work_places_lent : number_of l ≡ 0 → work_in l ≤ length work
  pub outcome : o ≡ outcome_of (verdict_of w h s picture result work) w h s result'
  pub written : result'
      ≡ when_accepted (verdict_of w h s picture result work)
      (straighten s.border (answer.kernel_in s) w h (row_moves s) (column_moves s) (take (w * h) picture) ++ drop (w * h) result)
      result
  pub cleared : work' ≡ when_accepted (verdict_of w h s picture result work) (replicate (12 * max w h) (pos 0) ++ drop (12 * max w h) work) work

module _ {l : List ℕ} {w h : ℕ} {s : Setting} {picture result work result' work' : List ℤ} {o : Outcome} (c : Called l w h s picture result work result' work' o) where
  in_line : (number_of l ≡ 0) × (s ≡ setting_in l)
  in_line = accepted_in l (setting_in l) s (rw (c.width, c.height) at c.accepts)

  none : number_of l ≡ 0
  none = in_line.0

  setting : s ≡ setting_in l
  setting = in_line.1

  -- the straightener does not refuse it
  straighten_verdict : verdict_of w h s picture result work ≡ accepted
  unfolding samples_in
  straighten_verdict =
      rw (setting, c.result_places, c.filled, c.width, c.height)
      (verdict_accepted l (samples_in l) (size_in l) (length work) none (omega (arith, tab-length (sample_at l) (size_in l))) (omega arith) (c.work_places_lent none) (samples_within l (well l c.well)))

  pub never_refused : (refusal : Refusal) → o ≡ Err refusal → ⊥
  never_refused refusal e = let v = straighten_verdict in let p = rw v at c.outcome in cc

  pub straightened : (told : answered.Straightened) (before : List ℤ) → o ≡ Ok told → Straightened l before result work picture result' work' (Ok told.lines)
  unfolding count_of straightened_of samples_in setting_in
  straightened told before e =
      let v = straighten_verdict in
      let lines : told.lines ≡ answer.count_of o = rw e refl in
      let size : w * h ≡ size_in l = ap₂ ◌*◌ c.width c.height in
      let whole : take (w * h) picture ≡ picture = take_all (w * h) picture (omega (arith, ap length c.filled ∙ tab-length (sample_at l) (size_in l))) in
      record {
        told = rw (none_refused l (count_of l) none) (ap Ok (lines ∙ rw (c.outcome, v, setting, c.width, c.height) refl));
        samples = c.filled;
        straightened = c.written ∙ rw (v, whole, drop_of_length-le result {i = w * h} (omega (arith, c.result_places)), append-nil, setting, c.filled, c.width, c.height) refl;
        cleared = c.cleared ∙ rw (v, c.width, c.height) refl;
      }

-- ---- a well-formed line answered by what that comes to
module _ {l : List ℕ} {w h : ℕ} (fine : well_formed l ≡ true) (width : w ≡ width_in l) (height : h ≡ height_in l)
    (picture result : List ℤ) {work picture' result' work' : List ℤ} {r : Result ℕ Refusal}
    (s : Straightened l (take (w * h) picture) (take (w * h) result) work picture' result' work' r) where
  whole : w * h ≡ size_in l
  whole = ap₂ ◌*◌ width height

  pub text_accepted : (lines : ℕ) → r ≡ Ok lines → accepted_text lines w h (take (w * h) (result' ++ drop (w * h) result)) ≡ answer_of l
  unfolding judged_text
  text_accepted lines e =
      let (none, count) = accepted_in l (count_of l) lines (sym s.told ∙ e) in
      let done : result' ≡ straightened_of l = rw e at s.straightened in
      let all = take_at (straightened_of l) (drop (w * h) result) (w * h) (straightened-length l ∙ sym whole) in
      rw (count, done, all, width, height) (answer-accepted l fine none)

  pub text_refused : (refusal : Refusal) → r ≡ Err refusal → refusal_text (number refusal) (place refusal).row (place refusal).column ≡ answer_of l
  text_refused refusal e = answer-refused (count_of l) l refusal fine (sym s.told ∙ e)

  pub left : {out out' : List ℕ} {n : Result ℕ Refusal} → Written (answer_of l) out out' n
      → Answered l out picture result work out' (picture' ++ drop (w * h) picture) (result' ++ drop (w * h) result) work' (written_bytes n)
  left {out} {out'} {n} t = by r refl
    where
      by : (v : Result ℕ Refusal) → r ≡ v
          → Answered l out picture result work out' (picture' ++ drop (w * h) picture) (result' ++ drop (w * h) result) work' (written_bytes n)
      by (Ok lines) e =
          let yes = accepted-line l fine (accepted_in l (count_of l) lines (sym s.told ∙ e)).0 in
          record {
            text = line_fitted l out out' n t;
            samples = rw yes (ap₂ ◌++◌ (rw e at s.samples) (ap (λ k. drop k picture) whole));
            straightened = rw yes (ap₂ ◌++◌ (rw e at s.straightened) (ap (λ k. drop k result) whole));
            cleared = rw yes (rw e at s.cleared);
          }
      by (Err refusal) e =
          let no = refused-line l (refused_number (count_of l) l refusal (sym s.told ∙ e)).1 in
          record {
            text = line_fitted l out out' n t;
            samples = rw no (ap (λ (p : List ℤ). p ++ drop (w * h) picture) (rw e at s.samples) ∙ take-append-drop (w * h) picture);
            straightened = rw no (ap (λ (p : List ℤ). p ++ drop (w * h) result) (rw e at s.straightened) ∙ take-append-drop (w * h) result);
            cleared = rw no (rw e at s.cleared);
          }
