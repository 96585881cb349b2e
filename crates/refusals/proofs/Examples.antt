-- Document 01's number of each refusal, and the place that it names, computed. A definition and the code with one number wrong would agree with each
-- other, and with every law that speaks of a refusal by its name: these lists refuse them. Assumes nothing.
use mathlib.Core.Path.{◌≡◌, refl}
use mathlib.Core.List.{List, ◌∷◌, []}
use Rattle.std.specs.Prelude.{map}
use Rattle.refusals.specs.declared.Place.{Place}
use Rattle.refusals.specs.declared.Refusal.{Refusal}
use Rattle.refusals.specs.declared.Refusal.TheVariants.{BadSize, TooShort, BadCentre, TooFar, BadKernel, BadSample, TooLarge, Outside, TooSteep, Malformed, BadBackground, OtherSize, BelowThreshold, BadMove, BadPlane}
use Rattle.refusals.specs.Judging.{number, place}

abbrev second : Place
second = record { row = 2; column = 3 }

abbrev nowhere : Place
nowhere = record { row = 0; column = 0 }

-- those of document 01, 1 to 9, and of document 02: 12, 14, 15, 16, 17
pub numbers :
    map number (BadSize ∷ TooShort ∷ BadCentre ∷ TooFar ∷ BadKernel ∷ BadSample second ∷ TooLarge ∷ Outside ∷ TooSteep ∷ Malformed ∷ [])
    ≡ 1 ∷ 2 ∷ 3 ∷ 4 ∷ 5 ∷ 6 ∷ 6 ∷ 7 ∷ 8 ∷ 9 ∷ []
numbers = refl

pub later_numbers : map number (BadBackground ∷ OtherSize ∷ BelowThreshold second ∷ BadMove ∷ BadPlane ∷ []) ≡ 12 ∷ 14 ∷ 15 ∷ 16 ∷ 17 ∷ []
later_numbers = refl

-- a sample is named under 6 and under 15, and by no other refusal: not by the 6 of a forecast either
pub places : map place (BadSample second ∷ BelowThreshold second ∷ TooLarge ∷ BadPlane ∷ []) ≡ second ∷ second ∷ nowhere ∷ nowhere ∷ []
places = refl
