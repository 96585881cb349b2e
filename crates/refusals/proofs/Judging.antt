-- Chains of tests: what an accepted call has passed, and that number 0 says that it is one. Assumes nothing.
use mathlib.Core.Path.{◌≡◌, refl, ap}
use mathlib.Core.Bool.{Bool, true, false}
use Rattle.std.specs.Prelude.{Option, Some, None, Result, Ok, Err}
use Rattle.refusals.specs.declared.Place.{Place}
use Rattle.refusals.specs.declared.Refusal.{Refusal}
use Rattle.refusals.specs.declared.Refusal.TheVariants.{BadSize, TooShort, BadCentre, TooFar, BadKernel, BadSample, TooLarge, Outside, TooSteep, Malformed, BadBackground, OtherSize, BelowThreshold, BadMove, BadPlane}
use Rattle.refusals.specs.Judging.{number, Verdict, accepted, refused_if, of_found, and_then, number_of}

-- an accepted call has passed the test, and the later ones
pub refused_if-accepted : {A E : Type 0} (t : Bool) (refusal : E) (later : Result A E) (x : A)
    → refused_if t refusal later ≡ Ok x → (t ≡ false) × (later ≡ Ok x)
refused_if-accepted true refusal later x e = absurd cc
refused_if-accepted false refusal later x e = (refl, e)

-- where such a test accepts, nothing was found
pub of_found-accepted : {E : Type 0} (refusal : Place → E) (f : Option Place) → of_found refusal f ≡ Ok tt → f ≡ None
of_found-accepted refusal None e = refl
of_found-accepted refusal (Some p) e = absurd cc

-- and where it refuses, a call that has refusals of its own is refused by what it has for that refusal
pub of_found-told : {E : Type 0} (told : Refusal → E) (refusal : Place → Refusal) (f : Option Place) (r : Refusal)
    → of_found refusal f ≡ Err r → of_found (λ p. told (refusal p)) f ≡ Err (told r)
of_found-told told refusal None r e = absurd cc
of_found-told told refusal (Some p) r e = let same : refusal p ≡ r = cc in ap (λ x. Err (told x)) same

pub and_then-accepted : {A E : Type 0} (v : Result Unit E) (later : Result A E) (x : A) → and_then v later ≡ Ok x → (v ≡ Ok tt) × (later ≡ Ok x)
and_then-accepted (Ok u) later x e = (refl, e)
and_then-accepted (Err refusal) later x e = absurd cc

-- no number is 0, so that 0 says that a call is accepted
pub some_number : (refusal : Refusal) → number refusal ≡ 0 → ⊥
some_number BadSize e = cc
some_number TooShort e = cc
some_number BadCentre e = cc
some_number TooFar e = cc
some_number BadKernel e = cc
some_number (BadSample p) e = cc
some_number TooLarge e = cc
some_number Outside e = cc
some_number TooSteep e = cc
some_number Malformed e = cc
some_number BadBackground e = cc
some_number OtherSize e = cc
some_number (BelowThreshold p) e = cc
some_number BadMove e = cc
some_number BadPlane e = cc

pub accepted_by_zero : (v : Verdict) → number_of v ≡ 0 → v ≡ accepted
accepted_by_zero (Ok u) e = refl
accepted_by_zero (Err refusal) e = absurd (some_number refusal e)
