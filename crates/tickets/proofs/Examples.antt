-- What the tests say of commits on tickets of several kinds, worked out by the checker. Assumes nothing.
use Prim.Native.Nat.{ℕ}
use mathlib.Core.Path.{◌≡◌, refl}
use mathlib.Core.List.{List, [], ◌∷◌}
use lib.IntN.{ℤ, pos}
use lib.ListN.{replicate}
use Rattle.std.specs.Prelude.{Err}
use Rattle.refusals.specs.declared.Refusal.TheVariants.{BadSize, TooShort, BadCentre, TooFar, BadKernel, BadSample, BadBackground, OtherSize}
use Rattle.refusals.specs.Judging.{Verdict, accepted}
use Rattle.refusals.specs.Tests.{bad_side, bad_size, short, bad_kernel, beyond_of, first_from, first_bad}
use Rattle.settings.specs.declared.Border.TheVariants.{Wrapped, Background}
use Rattle.settings.specs.declared.Setting.{Setting}
use Rattle.settings.specs.Setting.{with_kernel, with_centre, with_shears, with_border}
use Rattle.moves.specs.Border.{bad_background}
use Rattle.acceptance.specs.Judge.{too_short, bad_centre, bad_shears, judged_on}
use Rattle.tickets.specs.declared.Ticket.{Ticket}
use Rattle.tickets.specs.Ticket.{other_size, commit_verdict}

abbrev still : Setting
still = record { kernel = 0; cx = 0; cy = 0; a = pos 0; b = pos 0; border = Wrapped }

-- a ticket that tells 77 lines
abbrev ticket : ℕ → ℕ → Setting → Ticket
ticket W H s = record { width = W; height = H; setting = s; count = 77 }

abbrev zeros : ℕ → List ℤ
zeros n = replicate n (pos 0)

-- a commit of a picture of 3 by 2, with a result of 6 places
abbrev given : Ticket → List ℤ → Verdict
given t picture = commit_verdict t 3 2 picture (zeros 6) (zeros 36)

-- of its own size a ticket is taken, and of another it is 14: another width, another height, both exchanged, and the size of a refused asking. The
-- size inside the ticket is never judged under 1
sizes :
    given (ticket 3 2 still) (zeros 6)
    ∷ given (ticket 2 2 still) (zeros 6)
    ∷ given (ticket 3 3 still) (zeros 6)
    ∷ given (ticket 2 3 still) (zeros 6)
    ∷ given (ticket 0 0 still) (zeros 6)
    ∷ given (ticket 1025 1 still) (zeros 6)
    ∷ []
    ≡ accepted ∷ Err OtherSize ∷ Err OtherSize ∷ Err OtherSize ∷ Err OtherSize ∷ Err OtherSize ∷ []
unfolding judged_on other_size bad_size bad_side too_short short bad_centre bad_shears bad_kernel bad_background first_bad first_from beyond_of
sizes = refl

-- the setting of the ticket is judged, and the picture: 3, 4, 5, 12 and 6
again :
    given (ticket 3 2 (with_centre still 3 0)) (zeros 6)
    ∷ given (ticket 3 2 (with_shears still (pos 0) (pos 4097))) (zeros 6)
    ∷ given (ticket 3 2 (with_kernel still 3)) (zeros 6)
    ∷ given (ticket 3 2 (with_border still (Background (pos 32768)))) (zeros 6)
    ∷ given (ticket 3 2 still) (pos 0 ∷ pos 0 ∷ pos 0 ∷ pos 0 ∷ pos 0 ∷ pos 32768 ∷ [])
    ∷ []
    ≡ Err BadCentre ∷ Err TooFar ∷ Err BadKernel ∷ Err BadBackground ∷ Err (BadSample (record { row = 1; column = 2 })) ∷ []
unfolding judged_on other_size bad_size bad_side too_short short bad_centre bad_shears bad_kernel bad_background first_bad first_from beyond_of
again = refl

-- 14 stands after 1 and 2 and before 3: of the ticket of a refused asking, a size of 0 by 0 is 1 though the sizes agree, and a picture of 5 places 2
order :
    commit_verdict (ticket 0 0 still) 0 0 [] [] []
    ∷ given (ticket 0 0 still) (zeros 5)
    ∷ given (ticket 2 2 (with_centre still 3 0)) (zeros 6)
    ∷ []
    ≡ Err BadSize ∷ Err TooShort ∷ Err OtherSize ∷ []
unfolding judged_on other_size bad_size bad_side too_short short bad_centre bad_shears bad_kernel bad_background first_bad first_from beyond_of
order = refl
