-- Some lines and their answers, as the definitions compute them. Assumes nothing.
use Prim.Native.Nat.{ℕ}
use mathlib.Core.Path.{◌≡◌, refl}
use mathlib.Core.List.{List, [], ◌∷◌, map}
use Rattle.lists.specs.Tab.{tab, cat}
use Rattle.arith.specs.Whole.{floor, remainder, round}
use Rattle.arith.specs.Sum.{Σ}
use Rattle.arith.specs.Move.{fraction, whole}
use Rattle.lists.specs.Line.{wrap}
use Rattle.refusals.specs.Tests.{bad_side, bad_size, bad_kernel, beyond_of}
use Rattle.kernels.specs.Kernel.{weigh}
use Rattle.moves.specs.Move.{first, mixed, source, moved}
use Rattle.moves.specs.Border.{bordered, gone, fraction_in}
use Rattle.lists.specs.Picture.{picture, pictured}
use Rattle.passes.specs.Picture.{rows_moved, straighten}
use Rattle.passes.specs.Count.{interpolated, count}
use Rattle.steps.specs.Step.{entry, S}
use Rattle.acceptance.specs.Judge.{bad_centre}
use Rattle.digits.specs.Digit.{is_digit, all_digits, digit_value, value_from, hex_value, digit_of, places_of, hex_digits, signed16, word32}
use Rattle.format.specs.Line.{field_at, well_formed, sample_at, samples_in}
use Rattle.format.specs.Answer.{setting_in, number_of, count_of, straightened_of, refusal_text, samples_text, accepted_text, judged_text, answer_of}

-- document 01's line, 000000000100010000000080 prints 0000000001000100004000
-- 3 by 2 about column 2 and row 0, by step 1,000 and linear: 0003E800030002000200000010203040FF prints
-- 00000400030002000017EA00001DCC00001000000009BA0000324B00004DC5
-- an empty line prints 0900000000
-- W of 0 with 22 digits is judged: 1, 0000000000000100000000 prints 0100000000
-- a centre outside the picture, a step beyond its range and an unknown kernel: 3, 0906A2000100010001000080 prints 0300000000
-- a step beyond its range and an unknown kernel: 4, 0906A2000100010000000080 prints 0400000000
-- an unknown kernel: 5, 0906A1000100010000000080 prints 0500000000
-- one digit too many, with W of 0 too: 9 alone, 00000000000001000000000 prints 0900000000
-- a lower-case digit: 9, 00000000010001000000008a prints 0900000000
abbrev lines : List (List ℕ)
lines =
    (48 ∷ 48 ∷ 48 ∷ 48 ∷ 48 ∷ 48 ∷ 48 ∷ 48 ∷ 48 ∷ 49 ∷ 48 ∷ 48 ∷ 48 ∷ 49 ∷ 48 ∷ 48 ∷ 48 ∷ 48 ∷ 48 ∷ 48 ∷ 48 ∷ 48 ∷ 56 ∷ 48 ∷ [])
    ∷ (48 ∷ 48 ∷ 48 ∷ 51 ∷ 69 ∷ 56 ∷ 48 ∷ 48 ∷ 48 ∷ 51 ∷ 48 ∷ 48 ∷ 48 ∷ 50 ∷ 48 ∷ 48 ∷ 48 ∷ 50 ∷ 48 ∷ 48 ∷ 48 ∷ 48 ∷ 48 ∷ 48 ∷ 49 ∷ 48 ∷ 50 ∷ 48 ∷ 51 ∷ 48 ∷ 52 ∷ 48 ∷ 70 ∷ 70 ∷ [])
    ∷ ([])
    ∷ (48 ∷ 48 ∷ 48 ∷ 48 ∷ 48 ∷ 48 ∷ 48 ∷ 48 ∷ 48 ∷ 48 ∷ 48 ∷ 48 ∷ 48 ∷ 49 ∷ 48 ∷ 48 ∷ 48 ∷ 48 ∷ 48 ∷ 48 ∷ 48 ∷ 48 ∷ [])
    ∷ (48 ∷ 57 ∷ 48 ∷ 54 ∷ 65 ∷ 50 ∷ 48 ∷ 48 ∷ 48 ∷ 49 ∷ 48 ∷ 48 ∷ 48 ∷ 49 ∷ 48 ∷ 48 ∷ 48 ∷ 49 ∷ 48 ∷ 48 ∷ 48 ∷ 48 ∷ 56 ∷ 48 ∷ [])
    ∷ (48 ∷ 57 ∷ 48 ∷ 54 ∷ 65 ∷ 50 ∷ 48 ∷ 48 ∷ 48 ∷ 49 ∷ 48 ∷ 48 ∷ 48 ∷ 49 ∷ 48 ∷ 48 ∷ 48 ∷ 48 ∷ 48 ∷ 48 ∷ 48 ∷ 48 ∷ 56 ∷ 48 ∷ [])
    ∷ (48 ∷ 57 ∷ 48 ∷ 54 ∷ 65 ∷ 49 ∷ 48 ∷ 48 ∷ 48 ∷ 49 ∷ 48 ∷ 48 ∷ 48 ∷ 49 ∷ 48 ∷ 48 ∷ 48 ∷ 48 ∷ 48 ∷ 48 ∷ 48 ∷ 48 ∷ 56 ∷ 48 ∷ [])
    ∷ (48 ∷ 48 ∷ 48 ∷ 48 ∷ 48 ∷ 48 ∷ 48 ∷ 48 ∷ 48 ∷ 48 ∷ 48 ∷ 48 ∷ 48 ∷ 49 ∷ 48 ∷ 48 ∷ 48 ∷ 48 ∷ 48 ∷ 48 ∷ 48 ∷ 48 ∷ 48 ∷ [])
    ∷ (48 ∷ 48 ∷ 48 ∷ 48 ∷ 48 ∷ 48 ∷ 48 ∷ 48 ∷ 48 ∷ 49 ∷ 48 ∷ 48 ∷ 48 ∷ 49 ∷ 48 ∷ 48 ∷ 48 ∷ 48 ∷ 48 ∷ 48 ∷ 48 ∷ 48 ∷ 56 ∷ 97 ∷ [])
    ∷ []

abbrev answers : List (List ℕ)
answers =
    (48 ∷ 48 ∷ 48 ∷ 48 ∷ 48 ∷ 48 ∷ 48 ∷ 48 ∷ 48 ∷ 49 ∷ 48 ∷ 48 ∷ 48 ∷ 49 ∷ 48 ∷ 48 ∷ 48 ∷ 48 ∷ 52 ∷ 48 ∷ 48 ∷ 48 ∷ 10 ∷ [])
    ∷ (48 ∷ 48 ∷ 48 ∷ 48 ∷ 48 ∷ 52 ∷ 48 ∷ 48 ∷ 48 ∷ 51 ∷ 48 ∷ 48 ∷ 48 ∷ 50 ∷ 48 ∷ 48 ∷ 48 ∷ 48 ∷ 49 ∷ 55 ∷ 69 ∷ 65 ∷ 48 ∷ 48 ∷ 48 ∷ 48 ∷ 49 ∷ 68 ∷ 67 ∷ 67 ∷ 48 ∷ 48 ∷ 48 ∷ 48 ∷ 49 ∷ 48 ∷ 48 ∷ 48 ∷ 48 ∷ 48 ∷ 48 ∷ 48 ∷ 48 ∷ 57 ∷ 66 ∷ 65 ∷ 48 ∷ 48 ∷ 48 ∷ 48 ∷ 51 ∷ 50 ∷ 52 ∷ 66 ∷ 48 ∷ 48 ∷ 48 ∷ 48 ∷ 52 ∷ 68 ∷ 67 ∷ 53 ∷ 10 ∷ [])
    ∷ (48 ∷ 57 ∷ 48 ∷ 48 ∷ 48 ∷ 48 ∷ 48 ∷ 48 ∷ 48 ∷ 48 ∷ 10 ∷ [])
    ∷ (48 ∷ 49 ∷ 48 ∷ 48 ∷ 48 ∷ 48 ∷ 48 ∷ 48 ∷ 48 ∷ 48 ∷ 10 ∷ [])
    ∷ (48 ∷ 51 ∷ 48 ∷ 48 ∷ 48 ∷ 48 ∷ 48 ∷ 48 ∷ 48 ∷ 48 ∷ 10 ∷ [])
    ∷ (48 ∷ 52 ∷ 48 ∷ 48 ∷ 48 ∷ 48 ∷ 48 ∷ 48 ∷ 48 ∷ 48 ∷ 10 ∷ [])
    ∷ (48 ∷ 53 ∷ 48 ∷ 48 ∷ 48 ∷ 48 ∷ 48 ∷ 48 ∷ 48 ∷ 48 ∷ 10 ∷ [])
    ∷ (48 ∷ 57 ∷ 48 ∷ 48 ∷ 48 ∷ 48 ∷ 48 ∷ 48 ∷ 48 ∷ 48 ∷ 10 ∷ [])
    ∷ (48 ∷ 57 ∷ 48 ∷ 48 ∷ 48 ∷ 48 ∷ 48 ∷ 48 ∷ 48 ∷ 48 ∷ 10 ∷ [])
    ∷ []

pub lines_answered : map answer_of lines ≡ answers
unfolding tab cat floor remainder round Σ fraction whole wrap weigh first mixed source moved bordered picture pictured rows_moved straighten gone fraction_in interpolated count beyond_of entry S bad_side bad_size bad_centre bad_kernel is_digit all_digits digit_value value_from hex_value digit_of places_of hex_digits signed16 word32 field_at well_formed sample_at samples_in setting_in number_of count_of straightened_of refusal_text samples_text accepted_text judged_text answer_of
lines_answered = refl
