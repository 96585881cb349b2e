-- Coefficients of short lines, computed. One grey settles in a cycle of two, so a run-in of one place more or fewer shows in them.
-- Assumes nothing.
use mathlib.Core.Path.{◌≡◌, refl}
use mathlib.Core.List.{[], ◌∷◌}
use lib.IntN.{pos}
use Rattle.arith.specs.Whole.{floor, round}
use Rattle.lists.specs.Tab.{tab}
use Rattle.lists.specs.Line.{wrap, line}
use Rattle.spline.specs.Coefficients.{filter, run, u, down, back, v, scaled, coefficient}

one_place : coefficient 1 (line (pos 4 ∷ [])) 0 ≡ pos 64
unfolding floor round wrap filter run u down back v scaled coefficient
one_place = refl

two_places : tab (coefficient 2 (line (pos 2 ∷ pos 3 ∷ []))) 2 ≡ pos 18 ∷ pos 63 ∷ []
unfolding floor round wrap filter run u down back v scaled coefficient tab
two_places = refl

two_greys : tab (coefficient 2 (line (pos 4 ∷ pos 4 ∷ []))) 2 ≡ pos 66 ∷ pos 63 ∷ []
unfolding floor round wrap filter run u down back v scaled coefficient tab
two_greys = refl

largest : coefficient 1 (line (pos 294912 ∷ [])) 0 ≡ pos 4718592
unfolding floor round wrap filter run u down back v scaled coefficient
largest = refl
