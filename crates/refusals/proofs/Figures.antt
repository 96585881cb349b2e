-- What a verdict tells: number 6 with the row and the column of the first sample beyond its range, every other number with 0 and 0.
-- Assumes nothing.
use Prim.Native.Nat.{ℕ, ◌*◌}
use mathlib.Core.Path.{◌≡◌, refl, sym, ap, ◌∙◌}
use mathlib.Core.Bool.{Bool, true, false, cond}
use mathlib.Core.List.{List}
use lib.IntN.{ℤ}
use Rattle.std.specs.Prelude.{Option, Some, None, Result, Ok, Err}
use Rattle.refusals.specs.declared.Place.{Place}
use Rattle.refusals.specs.declared.Refusal.{Refusal}
use Rattle.refusals.specs.declared.Refusal.TheVariants.{BadSample}
use Rattle.refusals.specs.Tests.{first_bad, AllWithin}
use Rattle.refusals.specs.Judging.{number, place, Verdict, refused_if, of_found, and_then, number_of, row_of, column_of, is_found, found_place, Figures}
use Rattle.refusals.proofs.First.{nothing_bad, BadAt, first_bad_lem}

-- ---- a picture that no test before 6 refuses
module _ (limit width height : ℕ) (s : List ℤ) where
  -- the verdict of the scan
  abbrev scan : Verdict
  scan = of_found BadSample (first_bad limit width height s)

  -- row y, column x holds the first sample beyond the limit: number 6, row y, column x
  pub first-told : (y x : ℕ) → BadAt limit width height s y x → (number_of scan ≡ 6) × (row_of scan ≡ y) × (column_of scan ≡ x)
  first-told y x b = rw ((first_bad_lem limit width height s y x).1 b) (refl, refl, refl)

  -- every sample is within the limit: all three are 0
  pub nothing-told : AllWithin limit (height * width) s → (number_of scan ≡ 0) × (row_of scan ≡ 0) × (column_of scan ≡ 0)
  nothing-told h = rw ((nothing_bad limit width height s).1 h) (refl, refl, refl)

-- ---- chains of tests
-- the last test, under a refusal that names the place of what it found
pub figures_found : (refusal : Place → Refusal) (n : ℕ) (f : Option Place) (named : ℕ → Option Place)
    → ((p : Place) → number (refusal p) ≡ n) → ((p : Place) → place (refusal p) ≡ p) → named n ≡ f → named 0 ≡ None
    → Figures (cond (is_found f) n 0) named (of_found refusal f)
figures_found refusal n None named own names e none = record { number = refl; row = rw none refl; column = rw none refl }
figures_found refusal n (Some p) named own names e none = record {
  number = own p;
  row = ap (λ (q : Place). q.row) told;
  column = ap (λ (q : Place). q.column) told;
}
  where
    told : place (refusal p) ≡ found_place (named n)
    told = names p ∙ ap found_place (sym e)

-- a test under a refusal, before others: it names what its number names
pub figures_refused_if : {A : Type 0} (t : Bool) (refusal : Refusal) (lowest : ℕ) (named : ℕ → Option Place) (later : Result A Refusal)
    → place refusal ≡ found_place (named (number refusal)) → Figures lowest named later
    → Figures (cond t (number refusal) lowest) named (refused_if t refusal later)
figures_refused_if true refusal lowest named later e h = record { number = refl; row = ap (λ (q : Place). q.row) e; column = ap (λ (q : Place). q.column) e }
figures_refused_if false refusal lowest named later e h = h

-- a test under a refusal that names the place of what it found, before others
pub figures_and_then : {A : Type 0} (refusal : Place → Refusal) (n lowest : ℕ) (f : Option Place) (named : ℕ → Option Place) (later : Result A Refusal)
    → ((p : Place) → number (refusal p) ≡ n) → ((p : Place) → place (refusal p) ≡ p) → named n ≡ f → Figures lowest named later
    → Figures (cond (is_found f) n lowest) named (and_then (of_found refusal f) later)
figures_and_then refusal n lowest None named later own names e h = h
figures_and_then refusal n lowest (Some p) named later own names e h = record {
  number = own p;
  row = ap (λ (q : Place). q.row) told;
  column = ap (λ (q : Place). q.column) told;
}
  where
    told : place (refusal p) ≡ found_place (named n)
    told = names p ∙ ap found_place (sym e)

-- the tests before a later one come before what follows it too
pub and_then_assoc : {A : Type 0} (v then : Verdict) (last : Result A Refusal) → and_then (and_then v then) last ≡ and_then v (and_then then last)
and_then_assoc (Ok u) then last = refl
and_then_assoc (Err refusal) then last = refl

pub and_then-refused_if : {A : Type 0} (t : Bool) (refusal : Refusal) (v : Verdict) (later : Result A Refusal)
    → and_then (refused_if t refusal v) later ≡ refused_if t refusal (and_then v later)
and_then-refused_if true refusal v later = refl
and_then-refused_if false refusal v later = refl
