-- Each call's contract, from its verdict and what was written or read. Assumes nothing.
use Prim.Native.Nat.{ℕ, ◌*◌, ◌≤◌, ◌<◌, min}
use mathlib.Core.Path.{◌≡◌, refl, sym, ap, ◌∙◌, subst}
use mathlib.Core.List.{List, ◌++◌}
use native.Mathlib.Omega.{arith}
use lib.Dec.{lit≤}
use lib.IntN.{ℤ, pos, nat_abs}
use lib.ListN.{length, take, drop, get_or}
use lib.Seq.{get_or-take, length-take-le}
use lib.Ieee.{Float}
use Rattle.lists.specs.Tab.{tab}
use Rattle.lists.specs.Line.{line}
use Rattle.lists.specs.Ends.{smallest, largest}
use Rattle.lists.proofs.Tab.{tab_ext, tab-place}
use Rattle.std.specs.Prelude.{Ok, Err}
use Rattle.refusals.specs.declared.Refusal.{Refusal}
use Rattle.refusals.specs.Judging.{Verdict, accepted}
use Rattle.readings.specs.declared.Reading.{Reading}
use Rattle.readings.specs.Sample.{float_of, Exactly, reading_of}
use Rattle.readings.specs.Answers.{range, judged, judged_point, Out, FloatsOut, sample_at, reading_answer, ReadingAt, summary_answer, summary_of_answer, SummaryOf}
use Rattle.readings.proofs.Exact.{float_exact, zero_bits}
use Rattle.readings.proofs.Cases.{reading_exact}
use Rattle.readings.proofs.Passed.{passed}
use Rattle.readings.proofs.Figures.{judged_figures, point_figures, answer_figures}

-- ---- greys out and floats out
-- the forms of the first n samples, as a list of their own
pub forms_first : {A : Type 0} (f : ℤ → A) (n : ℕ) (s : List ℤ) → n ≤ length s
    → tab (λ k. f (line (take n s) k)) (length (take n s)) ≡ tab (λ k. f (line s k)) n
forms_first f n s room = rw (length-take-le n s room) (tab_ext _ _ n (λ k l. ap f (get_or-take n s k (pos 0) l)))

module _ {A : Type 0} (f : ℤ → A) (width height : ℕ) (picture : List ℤ) (old : List A) where
  pub out_refused : (refusal : Refusal) → Err refusal ≡ judged width height (min (length picture) (length old)) picture
      → Out f width height picture old old (Err refusal)
  out_refused refusal e = record { verdict = e; figures = rw e (judged_figures width height _ picture); buffer = refl; refused = λ h. refl }

  pub out_accepted : (new : List A) → accepted ≡ judged width height (min (length picture) (length old)) picture
      → new ≡ tab (λ k. f (line picture k)) (height * width) ++ drop (height * width) old
      → Out f width height picture old new accepted
  out_accepted new e b = record { verdict = e; figures = rw e (judged_figures width height _ picture); buffer = b; refused = λ h. absurd (h refl) }

-- floats out: nothing is rounded at any place
module _ (width height : ℕ) (picture : List ℤ) (old new : List Float) (r : Verdict) where
  pub floats_exact : Out float_of width height picture old new r → FloatsOut width height picture old new r
  floats_exact o = record { out = o; exact = each }
    where
      each : r ≡ accepted → (k : ℕ) → k < height * width → Exactly (get_or new k (float_of (pos 0))) (line picture k)
      each a k l =
          subst (λ (x : Float). Exactly x (line picture k))
          (sym
          (ap (λ (s : List Float). get_or s k (float_of (pos 0))) (rw a at o.buffer)
          ∙ tab-place (λ k. float_of (line picture k)) (height * width) k old (float_of (pos 0)) l))
          (float_exact (line picture k) (double ((passed width height (min (length picture) (length old)) picture (sym o.verdict ∙ a)).within k l)))
        where
          double : {n : ℕ} → n ≤ range → n ≤ 2 * range
          double h = omega arith

-- ---- a reading
module _ (width height column row : ℕ) (picture : List ℤ) where
  pub reading_refused : (refusal : Refusal) → Err refusal ≡ judged_point width height column row picture → ReadingAt width height column row picture (Err refusal)
  unfolding reading_answer
  reading_refused refusal e = record {
    answer = rw (← e) refl;
    figures = answer_figures _ _ (Err refusal) (reading_of (pos 0)) (rw e (point_figures width height column row picture));
    refused = λ h. rw zero_bits refl;
    exact = float_exact (pos 0) (lit≤ tt);
  }

  pub reading_accepted : {u : Unit} (reading : Reading) → Ok u ≡ judged_point width height column row picture → reading ≡ reading_of (sample_at width column row picture)
      → nat_abs (sample_at width column row picture) ≤ range
      → ReadingAt width height column row picture (Ok reading)
  unfolding reading_answer
  reading_accepted reading e q h = record {
    answer = rw (← e, q) refl;
    figures = answer_figures _ _ (Ok tt) reading (rw e (point_figures width height column row picture));
    refused = λ n. absurd (n refl);
    exact = rw q (reading_exact (sample_at width column row picture) h);
  }

-- ---- the summary
module _ (width height : ℕ) (picture : List ℤ) where
  pub summary_refused : (refusal : Refusal) → Err refusal ≡ judged width height (length picture) picture → SummaryOf width height picture (Err refusal)
  unfolding summary_answer
  summary_refused refusal e = record {
    answer = rw (← e) refl;
    figures = answer_figures _ _ (Err refusal) (summary_of_answer (Err refusal)) (rw e (judged_figures width height _ picture));
    refused = λ h. rw zero_bits (refl, refl);
    darkest_exact = float_exact (pos 0) (lit≤ tt);
    lightest_exact = float_exact (pos 0) (lit≤ tt);
  }

  pub summary_accepted : {u : Unit} (low high : ℤ) (darkest lightest : Float) → Ok u ≡ judged width height (length picture) picture
      → low ≡ smallest (line picture) (height * width) → high ≡ largest (line picture) (height * width)
      → darkest ≡ float_of low → lightest ≡ float_of high
      → nat_abs low ≤ 2 * range → nat_abs high ≤ 2 * range
      → SummaryOf width height picture (Ok (record { darkest = darkest; lightest = lightest }))
  unfolding summary_answer
  summary_accepted low high darkest lightest e l h d b sl sh = record {
    answer = rw (← e, d, b, l, h) refl;
    figures = answer_figures _ _ (Ok tt) (record { darkest = darkest; lightest = lightest }) (rw e (judged_figures width height _ picture));
    refused = λ n. absurd (n refl);
    darkest_exact = rw (← l, d) (float_exact low sl);
    lightest_exact = rw (← h, b) (float_exact high sh);
  }
