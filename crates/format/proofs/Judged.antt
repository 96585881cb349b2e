-- What a well-formed line tells, and the text that answers it, by its number. Assumes nothing.
use Prim.Native.Nat.{ℕ, zero, suc, ◌+◌, ◌*◌, ◌≤◌, ◌<◌, max}
use mathlib.Core.Bool.{Bool, true, false, ◌&&◌, cond, true≢false}
use mathlib.Core.List.{List}
use mathlib.Core.Path.{◌≡◌, refl, sym}
use native.Mathlib.Nat.{mul-le-mul_left, mul-le-mul_right}
use native.Mathlib.Omega.{arith}
use borrow.Author.Tests.{leb-true, eqb-true, ne_eqb}
use lib.Dec.{leb}
use lib.IntN.{pos, nat_abs}
use lib.ListN.{length, get_or}
use Rattle.digits.proofs.Test.{all_at, digit_worth}
use Rattle.digits.specs.Digit.{all_digits}
use Rattle.lists.proofs.Tab.{tab_at}
use Rattle.lists.specs.Line.{line}
use Rattle.std.specs.Prelude.{Result, Err}
use Rattle.refusals.specs.Judging.{number, place}
use Rattle.refusals.specs.declared.Refusal.{Refusal}
use Rattle.refusals.proofs.Judging.{some_number}
use Rattle.refusals.proofs.Tests.{size_good}
use Rattle.format.specs.Answer.{number_of, count_of, straightened_of, refusal_text, judged_text, is_accepted, answer_of}
use Rattle.format.specs.Answered.{Roomy, judged_in, written_bytes, LineAnswered}
use Rattle.format.specs.Room.{fitted_length, Fitted, written_of, Written}
use Rattle.format.specs.Line.{width_in, height_in, size_in, well_formed, sample_at, samples_in}
use Rattle.format.proofs.Outcome.{figures_in, none, work_enough, straightened-length}
use Rattle.format.proofs.Text.{length_refusal, length-accepted}

both : (a b : Bool) → (a && b) ≡ true → (a ≡ true) × (b ≡ true)
both true b e = (refl, e)
both false b e = absurd (true≢false (sym e))

and_false : (a : Bool) → (a && false) ≡ false
and_false true = refl
and_false false = refl

pub record Well (l : List ℕ) : Type 0 where
  pub long : 22 ≤ length l
  pub digits : all_digits l ≡ true
  pub small : size_in l ≤ 4096
  pub whole : length l ≡ 22 + 2 * size_in l

pub well : (l : List ℕ) → well_formed l ≡ true → Well l
unfolding well_formed
well l e =
    let (a, e1) = both (leb 22 (length l)) _ e in
    let (b, e2) = both (all_digits l) _ e1 in
    let (c, d) = both (leb (size_in l) 4096) _ e2 in
    record { long = leb-true 22 _ a; digits = b; small = leb-true _ 4096 c; whole = eqb-true (length l) _ d }

-- no sample of a well-formed line is beyond the range of pictures
pub samples_within : (l : List ℕ) → Well l → (k : ℕ) → k < size_in l → nat_abs (line (samples_in l) k) ≤ 32767
unfolding samples_in sample_at
samples_within l w k h =
    let high = (digit_worth (get_or l (22 + 2 * k) 0) (all_at l (22 + 2 * k) w.digits (omega (arith, w.whole)))).1 in
    let low = (digit_worth (get_or l (23 + 2 * k) 0) (all_at l (23 + 2 * k) w.digits (omega (arith, w.whole)))).1 in
    rw (tab_at (sample_at l) (size_in l) k (pos 0) h) (omega arith)

-- the answer to a line by its number: none applies, one does, and 9
pub answer-accepted : (l : List ℕ) → well_formed l ≡ true → number_of l ≡ 0 → judged_text 0 l ≡ answer_of l
unfolding answer_of
answer-accepted l e z = rw (e, z) refl

-- the refusal of the tests has the line's number, and names no place
pub refused_number : {A : Type 0} (x : A) (l : List ℕ) (refusal : Refusal) → judged_in l x ≡ Err refusal → (number refusal ≡ number_of l) × (0 < number_of l)
refused_number x l refusal e =
    let n : number refusal ≡ number_of l = rw e at (figures_in l x).number in
    (n, by (number_of l) n)
  where
    by : (n : ℕ) → number refusal ≡ n → 0 < n
    by zero z = absurd (some_number refusal z)
    by (suc n) z = omega arith

pub answer-refused : {A : Type 0} (x : A) (l : List ℕ) (refusal : Refusal) → well_formed l ≡ true → judged_in l x ≡ Err refusal
    → refusal_text (number refusal) (place refusal).row (place refusal).column ≡ answer_of l
unfolding answer_of judged_text
answer-refused x l refusal e j =
    let f = figures_in l x in
    let row : (place refusal).row ≡ 0 = rw j at f.row in
    let column : (place refusal).column ≡ 0 = rw j at f.column in
    let (n, some) = refused_number x l refusal j in
    rw (n, row, column) (by (number_of l) refl some)
  where
    by : (n : ℕ) → number_of l ≡ n → 0 < n → refusal_text (number_of l) 0 0 ≡ answer_of l
    by zero f k = absurd (omega arith)
    by (suc n) f k = rw (e, f) refl

pub answer_ill : (l : List ℕ) → well_formed l ≡ false → refusal_text 9 0 0 ≡ answer_of l
unfolding answer_of
answer_ill l e = rw e refl

-- a line is accepted where it is well formed and no number applies
pub accepted-line : (l : List ℕ) → well_formed l ≡ true → number_of l ≡ 0 → is_accepted l ≡ true
unfolding is_accepted
accepted-line l e z = rw (e, z) refl

pub refused-line : (l : List ℕ) → 0 < number_of l → is_accepted l ≡ false
unfolding is_accepted
refused-line l h = rw (ne_eqb (number_of l) 0 (λ e. omega arith)) (and_false (well_formed l))

pub ill_line : (l : List ℕ) → well_formed l ≡ false → is_accepted l ≡ false
unfolding is_accepted
ill_line l e = rw e refl

-- the sizes of a well-formed line, at the numbers read from it
pub small : (l : List ℕ) (w h : ℕ) → well_formed l ≡ true → w ≡ width_in l → h ≡ height_in l
    → (22 ≤ length l) × (w * h ≤ 4096) × (length l ≡ 22 + 2 * (w * h))
small l w h e ew eh = let f = well l e in rw (ew, eh) (f.long, f.small, f.whole)

-- the places that are enough: for every line, for one of up to 256 greys, and for one whose sides are up to 256
module _ (l : List ℕ) (e : well_formed l ≡ true) where
  pub roomy_in : (p r w : ℕ) → p ≡ 4096 → r ≡ 4096 → w ≡ 12288 → Roomy l p r w
  roomy_in p r w ep er ew = let f = well l e in rw (ep, er, ew) (f.small, f.small, work_enough l)

  pub roomy_small : (p r w : ℕ) → p ≡ 256 → r ≡ 256 → w ≡ 3072 → length l ≤ 534 → Roomy l p r w
  roomy_small p r w ep er ew h =
      let f = well l e in
      let few : size_in l ≤ 256 = omega (arith, f.whole) in
      rw (ep, er, ew) (
        few,
        few,
        λ z. let size = size_good (none l z).size in
            omega (arith, few, mul-le-mul_left (width_in l) size.1.0, mul-le-mul_right (height_in l) size.0.0),
      )

  pub roomy_square : (p r w : ℕ) → p ≡ 4096 → r ≡ 4096 → w ≡ 3072 → max (width_in l) (height_in l) ≤ 256 → Roomy l p r w
  roomy_square p r w ep er ew h = let f = well l e in rw (ep, er, ew) (f.small, f.small, λ z. omega arith)

-- a line of more than 8,214 bytes is not well formed, and no answer is longer than 32,783 bytes
pub long_ill : (l : List ℕ) → 8214 < length l → well_formed l ≡ false
long_ill l h = by (well_formed l) refl
  where
    by : (t : Bool) → well_formed l ≡ t → t ≡ false
    by false e = refl
    by true e = let f = well l e in absurd (omega (arith, f.small, f.whole))

-- no answer has more than eleven bytes for each byte of its line and for the line feed
judged_few : (l : List ℕ) (number : ℕ) → length l ≡ 22 + 2 * size_in l → length (judged_text number l) ≤ 11 * (length l + 1)
unfolding judged_text
judged_few l zero h = rw (length-accepted (count_of l) (width_in l) (height_in l) (straightened_of l), straightened-length l) (omega arith)
judged_few l (suc number) h = rw (length_refusal (suc number) 0 0) (omega arith)

pub answer_few : (l : List ℕ) → length (answer_of l) ≤ 11 * (length l + 1)
unfolding answer_of
answer_few l = by (well_formed l) refl
  where
    by : (t : Bool) → well_formed l ≡ t → length (cond t (judged_text (number_of l) l) (refusal_text 9 0 0)) ≤ 11 * (length l + 1)
    by true e = judged_few l (number_of l) (well l e).whole
    by false e = rw (length_refusal 9 0 0) (omega arith)

judged-short : (l : List ℕ) (number : ℕ) → size_in l ≤ 4096 → length (judged_text number l) ≤ 32783
unfolding judged_text
judged-short l zero h = rw (length-accepted (count_of l) (width_in l) (height_in l) (straightened_of l), straightened-length l) (omega arith)
judged-short l (suc number) h = rw (length_refusal (suc number) 0 0) (omega arith)

-- and every answer has some
judged_some : (l : List ℕ) (number : ℕ) → 0 < length (judged_text number l)
unfolding judged_text
judged_some l zero = rw (length-accepted (count_of l) (width_in l) (height_in l) (straightened_of l)) (omega arith)
judged_some l (suc number) = rw (length_refusal (suc number) 0 0) (omega arith)

pub answer_some : (l : List ℕ) → 0 < length (answer_of l)
unfolding answer_of
answer_some l = by (well_formed l)
  where
    by : (t : Bool) → 0 < length (cond t (judged_text (number_of l) l) (refusal_text 9 0 0))
    by true = judged_some l (number_of l)
    by false = rw (length_refusal 9 0 0) (omega arith)

pub answer-short : (l : List ℕ) → length (answer_of l) ≤ 32783
unfolding answer_of
answer-short l = by (well_formed l) refl
  where
    by : (t : Bool) → well_formed l ≡ t → length (cond t (judged_text (number_of l) l) (refusal_text 9 0 0)) ≤ 32783
    by true e = judged-short l (number_of l) (well l e).small
    by false e = rw (length_refusal 9 0 0) (omega arith)

-- ---- the call for one line
module _ (l out out' : List ℕ) (r : Result ℕ Refusal) (f : Written (answer_of l) out out' r) where
  pub line_answered : LineAnswered l out out' r
  unfolding written_of fitted_length
  line_answered = rw f.answer (by (leb (length (answer_of l)) (length out)) refl)
    where
      by : (t : Bool) → leb (length (answer_of l)) (length out) ≡ t → LineAnswered l out out' (written_of (answer_of l) out)
      by true e = record { answer = refl; text = f.holds; number = rw e refl; bytes = rw e refl }
      by false e = record { answer = refl; text = f.holds; number = rw e refl; bytes = rw e refl }

  pub line_fitted : Fitted (answer_of l) out out' (written_bytes r)
  line_fitted = let a = line_answered in record { holds = a.text; wrote = a.bytes }
