-- What each call answers, accepted or refused, and what it leaves in a lent buffer. A picture is stored row by row. Assumes nothing.
use Rattle.std.specs.Prelude.{ℕ, ◌+◌, ◌*◌, ◌<◌, min, ◌≡◌, Bool, ◌||◌, cond, Result, Ok, Err, List, ◌++◌, leb, ℤ, pos, length, drop, get_or, Float}
use Rattle.std.specs.Float.{binary32}
use Rattle.std.specs.Float.Ieee.{of_bits}
use Rattle.lists.specs.Tab.{tab}
use Rattle.lists.specs.Line.{line}
use Rattle.lists.specs.Ends.{smallest, largest}
use Rattle.refusals.specs.declared.Refusal.{Refusal}
use Rattle.refusals.specs.declared.Refusal.TheVariants.{BadSize, TooShort, BadSample, Outside}
use Rattle.refusals.specs.Tests.{bad_size, short, first_bad}
use Rattle.refusals.specs.Judging.{Verdict, accepted, refused_if, of_found, and_then, answer_by, number_of, when_accepted, is_found, Figures, under_six}
use Rattle.readings.specs.declared.Reading.{Reading}
use Rattle.readings.specs.declared.Reading.TheVariants.{Level}
use Rattle.readings.specs.declared.Summary.{Summary}
use Rattle.readings.specs.Sample.{float_of, Exactly, reading_of, ReadsExactly}

-- the range of samples of any picture call that names none: ±1,048,576
abbrev pub range : ℕ
range = 1048576

-- numbers 1, 2 and 6 of a call that lends a picture, where the shortest lent buffer has `places` places
unfoldable pub judged : ℕ → ℕ → ℕ → List ℤ → Verdict
judged width height places picture =
    refused_if (bad_size width height) BadSize (refused_if (short places (height * width)) TooShort (of_found BadSample (first_bad range width height picture)))

-- the same with the call's own number after 2. The call's own refusals may be of any type, E, which has each shared one as `told` says
abbrev pub judged_as : {E : Type 0} → (Refusal → E) → ℕ → ℕ → ℕ → Result Unit E → List ℤ → Result Unit E
judged_as told width height places own picture =
    refused_if (bad_size width height) (told BadSize)
    (refused_if (short places (height * width)) (told TooShort)
    (and_then own
    (of_found (λ p. told (BadSample p)) (first_bad range width height picture))))

-- and of a call whose own refusals are among the shared ones
unfoldable pub judged_by : ℕ → ℕ → ℕ → Verdict → List ℤ → Verdict
judged_by width height places own picture = judged_as (λ refusal. refusal) width height places own picture

-- 7: a point outside the picture
unfoldable pub outside : ℕ → ℕ → ℕ → ℕ → Bool
outside width height column row = leb width column || leb height row

-- numbers 1, 2, 6 and 7 of a call that lends a picture and names a point in it
unfoldable pub judged_point : ℕ → ℕ → ℕ → ℕ → List ℤ → Verdict
judged_point width height column row picture =
    and_then (judged width height (length picture) picture) (refused_if (outside width height column row) Outside accepted)

-- the lowest of the numbers 1, 2 and 6 that applies to such a call, and `later` where none of them does
abbrev pub lowest : ℕ → ℕ → ℕ → List ℤ → ℕ → ℕ
lowest width height places picture later =
    cond (bad_size width height) 1
    (cond (short places (height * width)) 2
    (cond (is_found (first_bad range width height picture)) 6
    later))

-- the same with the call's own number after 2, where its test holds
abbrev pub lowest_by : ℕ → ℕ → ℕ → Bool → ℕ → List ℤ → ℕ
lowest_by width height places t number picture =
    cond (bad_size width height) 1
    (cond (short places (height * width)) 2
    (cond t number
    (cond (is_found (first_bad range width height picture)) 6 0)))

-- the number, the row and the column that document 01 gives v, the verdict on such a call
abbrev pub Tells : {A : Type 0} → ℕ → ℕ → ℕ → List ℤ → ℕ → Result A Refusal → Type 0
Tells width height places picture later v = Figures (lowest width height places picture later) (under_six (first_bad range width height picture)) v

-- ---- greys out and floats out
-- a lent buffer `old` becomes `new`: its first W·H places hold f of the samples, and no other place changes; refused, none does
pub record Out {A : Type 0} (f : ℤ → A) (width height : ℕ) (picture : List ℤ) (old new : List A) (r : Verdict) : Type 0 where
  pub verdict : r ≡ judged width height (min (length picture) (length old)) picture
  pub figures : Tells width height (min (length picture) (length old)) picture 0 r
  pub buffer : new ≡ when_accepted r (tab (λ k. f (line picture k)) (height * width) ++ drop (height * width) old) old
  pub refused : ¬ (number_of r ≡ 0) → new ≡ old

-- floats out also says that nothing is rounded at any place
pub record FloatsOut (width height : ℕ) (picture : List ℤ) (old new : List Float) (r : Verdict) : Type 0 where
  pub out : Out float_of width height picture old new r
  pub exact : r ≡ accepted → (k : ℕ) → k < height * width → Exactly (get_or new k (float_of (pos 0))) (line picture k)

-- ---- a reading
-- the sample that a point names
abbrev pub sample_at : ℕ → ℕ → ℕ → List ℤ → ℤ
sample_at width column row picture = line picture (row * width + column)

unfoldable pub reading_answer : ℕ → ℕ → ℕ → ℕ → List ℤ → Result Reading Refusal
reading_answer width height column row picture = answer_by (judged_point width height column row picture) (reading_of (sample_at width column row picture))

-- the reading of an answer: refused, it is Level 0
abbrev pub reading_of_answer : Result Reading Refusal → Reading
reading_of_answer (Ok reading) = reading
reading_of_answer (Err refusal) = Level (float_of (pos 0))

pub record ReadingAt (width height column row : ℕ) (picture : List ℤ) (r : Result Reading Refusal) : Type 0 where
  pub answer : r ≡ reading_answer width height column row picture
  pub figures : Tells width height (length picture) picture (cond (outside width height column row) 7 0) r
  pub refused : ¬ (number_of r ≡ 0) → reading_of_answer r ≡ Level (of_bits binary32 0)
  pub exact : ReadsExactly (reading_of_answer r) (when_accepted r (sample_at width column row picture) (pos 0))

-- ---- the summary
unfoldable pub summary_answer : ℕ → ℕ → List ℤ → Result Summary Refusal
summary_answer width height picture =
    answer_by (judged width height (length picture) picture)
    (record {
      darkest = float_of (smallest (line picture) (height * width));
      lightest = float_of (largest (line picture) (height * width));
    })

-- the summary of an answer: refused, both greys are 0
abbrev pub summary_of_answer : Result Summary Refusal → Summary
summary_of_answer (Ok summary) = summary
summary_of_answer (Err refusal) = record { darkest = float_of (pos 0); lightest = float_of (pos 0) }

pub record SummaryOf (width height : ℕ) (picture : List ℤ) (r : Result Summary Refusal) : Type 0 where
  pub answer : r ≡ summary_answer width height picture
  pub figures : Tells width height (length picture) picture 0 r
  pub refused : ¬ (number_of r ≡ 0) → ((summary_of_answer r).darkest ≡ of_bits binary32 0) × ((summary_of_answer r).lightest ≡ of_bits binary32 0)
  pub darkest_exact : Exactly (summary_of_answer r).darkest (when_accepted r (smallest (line picture) (height * width)) (pos 0))
  pub lightest_exact : Exactly (summary_of_answer r).lightest (when_accepted r (largest (line picture) (height * width)) (pos 0))
