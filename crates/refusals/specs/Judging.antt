-- Verdicts: the number of each refusal, the order of judging, and what document 01 answers under each verdict. Assumes nothing.
use Rattle.std.specs.Prelude.{ℕ, ◌≡◌, Bool, true, false, cond, eqb, Option, Some, None, Result, Ok, Err}
use Rattle.refusals.specs.declared.Place.{Place}
use Rattle.refusals.specs.declared.Refusal.{Refusal}
use Rattle.refusals.specs.declared.Refusal.TheVariants.{BadSize, TooShort, BadCentre, TooFar, BadKernel, BadSample, TooLarge, Outside, TooSteep, Malformed, BadBackground, OtherSize, BelowThreshold, BadMove, BadPlane}

-- document 01's number of a refusal
abbrev pub number : Refusal → ℕ
number BadSize = 1
number TooShort = 2
number BadCentre = 3
number TooFar = 4
number BadKernel = 5
number (BadSample p) = 6
number TooLarge = 6
number Outside = 7
number TooSteep = 8
number Malformed = 9
number BadBackground = 12
number OtherSize = 14
number (BelowThreshold p) = 15
number BadMove = 16
number BadPlane = 17

-- the place of a sample that a refusal names, row 0 and column 0 where it names none
abbrev pub place : Refusal → Place
place (BadSample p) = p
place (BelowThreshold p) = p
place _ = record { row = 0; column = 0 }

-- what the tests say of a call: accepted, or refused
abbrev pub Verdict : Type 0
Verdict = Result Unit Refusal

abbrev pub accepted : Verdict
accepted = Ok tt

-- refused where its test holds; else what the later tests say. A chain of these, the lowest number first, answers the lowest number that applies. The
-- refusals of a chain may be of any type, E
abbrev pub refused_if : {A E : Type 0} → Bool → E → Result A E → Result A E
refused_if true refusal later = Err refusal
refused_if false refusal later = later

-- refused by its place where a sample was found: 6, and 15 of levelling
abbrev pub of_found : {E : Type 0} → (Place → E) → Option Place → Result Unit E
of_found refusal None = Ok tt
of_found refusal (Some p) = Err (refusal p)

-- one verdict, and then what follows it: the first stands where it is a refusal
abbrev pub and_then : {A E : Type 0} → Result Unit E → Result A E → Result A E
and_then (Ok u) later = later
and_then (Err refusal) later = Err refusal

-- what an accepted call answers
abbrev pub answer_by : {A E : Type 0} → Result Unit E → A → Result A E
answer_by (Ok u) x = Ok x
answer_by (Err refusal) x = Err refusal

-- the number, the row and the column that a call answers, 0 when accepted
abbrev pub number_of : {A : Type 0} → Result A Refusal → ℕ
number_of (Ok x) = 0
number_of (Err refusal) = number refusal

abbrev pub row_of : {A : Type 0} → Result A Refusal → ℕ
row_of (Ok x) = 0
row_of (Err refusal) = (place refusal).row

abbrev pub column_of : {A : Type 0} → Result A Refusal → ℕ
column_of (Ok x) = 0
column_of (Err refusal) = (place refusal).column

-- a figure or a buffer by the answer: `new` when accepted; when refused `old`, a buffer as it was or a figure of 0
abbrev pub when_accepted : {A B : Type 0} → Result B Refusal → A → A → A
when_accepted (Ok x) new old = new
when_accepted (Err refusal) new old = old

-- what a scan found, as figures: whether there is such a sample, and its place, row 0 and column 0 where there is none
abbrev pub is_found : Option Place → Bool
is_found None = false
is_found (Some p) = true

abbrev pub found_place : Option Place → Place
found_place None = record { row = 0; column = 0 }
found_place (Some p) = p

-- the figures of an answer where `lowest` is the lowest number that applies, and `named` tells what a number names
pub record Figures {A : Type 0} (lowest : ℕ) (named : ℕ → Option Place) (v : Result A Refusal) : Type 0 where
  pub number : number_of v ≡ lowest
  pub row : row_of v ≡ (found_place (named lowest)).row
  pub column : column_of v ≡ (found_place (named lowest)).column

-- "row and column are 0 except under 6"
abbrev pub under_six : Option Place → ℕ → Option Place
under_six found number = cond (eqb number 6) found None
