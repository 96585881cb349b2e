-- The order of judging, and what small calls answer, worked out by the checker. Assumes nothing.
use mathlib.Core.Path.{◌≡◌, refl}
use mathlib.Core.List.{List, [], ◌∷◌, map}
use lib.IntN.{ℤ, pos}
use Rattle.std.specs.Prelude.{Ok, Err}
use Rattle.refusals.specs.declared.Refusal.TheVariants.{BadSize, TooShort, BadSample, BadMove}
use Rattle.refusals.specs.Judging.{accepted}
use Rattle.refusals.specs.Tests.{bad_side, bad_size, short, beyond_of, first_from, first_bad}
use Rattle.readings.specs.Answers.{judged_by}
use Rattle.arrangements.specs.Moves.{turns, moved}
use Rattle.arrangements.specs.Table.{entry, inverse_of}
use Rattle.quarters.specs.Answer.{bad_move, judged, width_of, height_of, moved_answer, joined_answer, inverse_answer}

-- rows of two: 1 2, 1,048,577 4, 5 6
samples : List ℤ
samples = map pos (1 ∷ 2 ∷ 1048577 ∷ 4 ∷ 5 ∷ 6 ∷ [])

-- every number applies; all but 1; all but 1 and 2; 6 alone; none of the first row
order :
    (judged 1025 3 8 0 samples ≡ Err BadSize)
    × (judged 2 3 8 5 samples ≡ Err TooShort)
    × (judged 2 3 8 6 samples ≡ Err BadMove)
    × (judged 2 3 7 6 samples ≡ Err (BadSample (record { row = 1; column = 0 })))
    × (judged 2 1 7 2 samples ≡ accepted)
unfolding samples judged_by bad_move bad_size bad_side short first_bad first_from beyond_of
order = (refl, refl, refl, refl, refl)

-- 2 by 1 becomes 1 by 2 under a quarter turn, and stays under a mirror; refused, the size is 0 by 0
sizes :
    (moved_answer 2 1 1 2 samples ≡ Ok (record { width = 1; height = 2 }))
    × (moved_answer 2 1 4 2 samples ≡ Ok (record { width = 2; height = 1 }))
    × (moved_answer 2 3 1 6 samples ≡ Err (BadSample (record { row = 1; column = 0 })))
    × (width_of (moved_answer 2 3 1 6 samples) ≡ 0)
    × (height_of (moved_answer 2 3 1 6 samples) ≡ 0)
unfolding samples moved_answer judged_by bad_move bad_size bad_side short first_bad first_from beyond_of moved turns
sizes = (refl, refl, refl, refl, refl)

-- a turn and then the mirror, the mirror and then a turn, and numbers above 7
joins :
    (joined_answer 1 4 ≡ Ok 7)
    × (joined_answer 4 1 ≡ Ok 5)
    × (joined_answer 8 0 ≡ Err BadMove)
    × (joined_answer 7 8 ≡ Err BadMove)
unfolding joined_answer bad_move entry
joins = (refl, refl, refl, refl)

undoes :
    (inverse_answer 1 ≡ Ok 3)
    × (inverse_answer 5 ≡ Ok 5)
    × (inverse_answer 8 ≡ Err BadMove)
unfolding inverse_answer bad_move inverse_of
undoes = (refl, refl, refl)
