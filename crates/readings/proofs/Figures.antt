-- The number, the row and the column that each verdict tells. Assumes nothing.
use Prim.Native.Nat.{ℕ, ◌*◌}
use mathlib.Core.Path.{◌≡◌, refl, sym, ap}
use mathlib.Core.Bool.{Bool, cond}
use mathlib.Core.List.{List}
use lib.IntN.{ℤ}
use lib.ListN.{length}
use Rattle.std.specs.Prelude.{Option, None, Result, Ok, Err}
use Rattle.refusals.specs.declared.Place.{Place}
use Rattle.refusals.specs.declared.Refusal.{Refusal}
use Rattle.refusals.specs.declared.Refusal.TheVariants.{BadSize, TooShort, BadSample, Outside}
use Rattle.refusals.specs.Tests.{bad_size, short, first_bad}
use Rattle.refusals.specs.Judging.{number, place, Verdict, accepted, answer_by, refused_if, of_found, and_then, found_place, Figures, under_six}
use Rattle.refusals.proofs.Figures.{figures_found, figures_refused_if, figures_and_then, and_then-refused_if}
use Rattle.readings.specs.Answers.{range, judged_by, judged, outside, judged_point, lowest, lowest_by, Tells}

-- with a call's own number between 2 and 6, which names what its refusal names
pub by_figures : (width height places : ℕ) (t : Bool) (refusal : Refusal) (picture : List ℤ)
    → place refusal ≡ found_place (under_six (first_bad range width height picture) (number refusal))
    → Figures (lowest_by width height places t (number refusal) picture) (under_six (first_bad range width height picture)) (judged_by width height places (refused_if t refusal accepted) picture)
unfolding judged_by
by_figures width height places t refusal picture none =
    let f = first_bad range width height picture in
    rw (and_then-refused_if t refusal accepted (of_found BadSample f))
    (figures_refused_if (bad_size width height) BadSize _ (under_six f) _ refl
    (figures_refused_if (short places (height * width)) TooShort _ (under_six f) _ refl
    (figures_refused_if t refusal _ (under_six f) _ none
    (figures_found BadSample 6 f (under_six f) (λ p. refl) (λ p. refl) refl refl))))

pub judged_figures : (width height places : ℕ) (picture : List ℤ) → Tells width height places picture 0 (judged width height places picture)
unfolding judged judged_by
judged_figures width height places picture =
    let f = first_bad range width height picture in
    figures_refused_if (bad_size width height) BadSize _ (under_six f) _ refl
    (figures_refused_if (short places (height * width)) TooShort _ (under_six f) _ refl
    (figures_found BadSample 6 f (under_six f) (λ p. refl) (λ p. refl) refl refl))

-- with tests that come after 1, 2 and 6
module _ {A : Type 0} (width height places : ℕ) (picture : List ℤ) (named : ℕ → Option Place) where
  pub later_figures : (n : ℕ) (later : Result A Refusal) → named 1 ≡ None → named 2 ≡ None → named 6 ≡ first_bad range width height picture → Figures n named later
      → Figures (lowest width height places picture n) named (and_then (judged width height places picture) later)
  unfolding judged judged_by
  later_figures n later one two six h =
      let bad = bad_size width height in
      let few = short places (height * width) in
      let scan = of_found BadSample (first_bad range width height picture) in
      rw (and_then-refused_if bad BadSize (refused_if few TooShort scan) later, and_then-refused_if few TooShort scan later)
      (figures_refused_if bad BadSize _ named _ (sym (ap found_place one))
      (figures_refused_if few TooShort _ named _ (sym (ap found_place two))
      (figures_and_then BadSample 6 n (first_bad range width height picture) named later (λ p. refl) (λ p. refl) six h)))

pub point_figures : (width height column row : ℕ) (picture : List ℤ)
    → Tells width height (length picture) picture (cond (outside width height column row) 7 0) (judged_point width height column row picture)
unfolding judged_point
point_figures width height column row picture =
    let named = under_six (first_bad range width height picture) in
    later_figures width height (length picture) picture named _ _ refl refl refl
    (figures_refused_if (outside width height column row) Outside 0 named accepted refl (record { number = refl; row = refl; column = refl }))

-- an answer tells what its verdict tells
pub answer_figures : {A : Type 0} (lowest : ℕ) (named : ℕ → Option Place) (v : Verdict) (x : A) → Figures lowest named v → Figures lowest named (answer_by v x)
answer_figures lowest named (Ok u) x f = record { number = f.number; row = f.row; column = f.column }
answer_figures lowest named (Err refusal) x f = record { number = f.number; row = f.row; column = f.column }
