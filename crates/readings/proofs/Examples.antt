-- Samples at the borders, verdicts in the order of the numbers, and whole answers, worked out by the checker. Assumes nothing.
use mathlib.Core.Path.{◌≡◌, refl}
use mathlib.Core.List.{List, [], ◌∷◌, map}
use lib.IntN.{ℤ, pos, negsuc}
use lib.Ieee.{binary32, round, to_bits, of_bits}
use Rattle.arith.specs.Whole.{floor, min_ℤ, max_ℤ}
use Rattle.lists.specs.Ends.{picked}
use Rattle.std.specs.Prelude.{Ok, Err}
use Rattle.refusals.specs.declared.Refusal.TheVariants.{BadSize, TooShort, BadSample, Outside}
use Rattle.refusals.specs.Tests.{bad_side, bad_size, short, beyond_of, first_from, first_bad}
use Rattle.refusals.specs.Judging.{accepted, number_of, row_of, column_of}
use Rattle.readings.specs.declared.Reading.TheVariants.{Level, Under, Over}
use Rattle.readings.specs.Sample.{grey_of, float_of, reading_of}
use Rattle.readings.specs.Answers.{judged_by, judged, outside, judged_point, reading_answer, reading_of_answer, summary_answer, summary_of_answer}

-- greys of -65, -64, 63, 64, 32,640 and 32,704: 64 units are the first of grey 1, and a grey is held to 0 to 255
greys_at_the_borders :
    map grey_of (negsuc 64 ∷ negsuc 63 ∷ pos 63 ∷ pos 64 ∷ pos 32640 ∷ pos 32704 ∷ []) ≡ 0 ∷ 0 ∷ 0 ∷ 1 ∷ 255 ∷ 255 ∷ []
unfolding grey_of floor min_ℤ max_ℤ
greys_at_the_borders = refl

-- greys of 1,920 and 30,208: one darker than video black and one lighter than video white are kept
greys_beyond_video : map grey_of (pos 1920 ∷ pos 30208 ∷ []) ≡ 15 ∷ 236 ∷ []
unfolding grey_of floor min_ℤ max_ℤ
greys_beyond_video = refl

-- the bits of 1/128 and of -8,192
bits_of_one_unit : to_bits binary32 (float_of (pos 1)) ≡ 0x3C00_0000
unfolding float_of round to_bits
bits_of_one_unit = refl

bits_of_the_lowest : to_bits binary32 (float_of (negsuc 1048575)) ≡ 0xC600_0000
unfolding float_of round to_bits
bits_of_the_lowest = refl

-- grey 0 reads Under by 16 and grey 250 Over by 15, and the ends of the range Under by 8,208 and Over by 7,957 (`Cases` has the bounds)
zero_and_250 : map reading_of (pos 0 ∷ pos 32000 ∷ []) ≡ Under (of_bits binary32 0x4180_0000) ∷ Over (of_bits binary32 0x4170_0000) ∷ []
unfolding reading_of float_of round of_bits
zero_and_250 = refl

ends_of_the_range :
    map reading_of (negsuc 1048575 ∷ pos 1048576 ∷ []) ≡ Under (of_bits binary32 0x4600_4000) ∷ Over (of_bits binary32 0x45F8_A800) ∷ []
unfolding reading_of float_of round of_bits
ends_of_the_range = refl

-- a picture 2 wide and 2 high: the first bad sample in row order is named, whatever comes after it
two_bad : List ℤ
two_bad = pos 0 ∷ pos 1048576 ∷ negsuc 1048576 ∷ pos 1048577 ∷ []

first_bad_sample : judged 2 2 4 two_bad ≡ Err (BadSample (record { row = 1; column = 0 }))
unfolding two_bad judged judged_by bad_size bad_side short first_bad first_from beyond_of
first_bad_sample = refl

-- the range itself is accepted
the_range : judged 1 2 2 two_bad ≡ accepted
unfolding two_bad judged judged_by bad_size bad_side short first_bad first_from beyond_of
the_range = refl

-- a bad size is told before a short buffer, that before a bad sample, and that before a point outside
lowest_number : judged 1025 1 0 two_bad ≡ Err BadSize
unfolding two_bad judged judged_by bad_size bad_side short first_bad first_from beyond_of
lowest_number = refl

short_before_bad : judged 2 2 3 two_bad ≡ Err TooShort
unfolding two_bad judged judged_by bad_size bad_side short first_bad first_from beyond_of
short_before_bad = refl

bad_before_outside : judged_point 2 2 2 0 two_bad ≡ Err (BadSample (record { row = 1; column = 0 }))
unfolding two_bad judged_point outside judged judged_by bad_size bad_side short first_bad first_from beyond_of
bad_before_outside = refl

point_outside : judged_point 1 2 0 2 two_bad ≡ Err Outside
unfolding two_bad judged_point outside judged judged_by bad_size bad_side short first_bad first_from beyond_of
point_outside = refl

-- ---- whole answers
-- a picture 3 wide and 2 high: its darkest grey is -1, its lightest 320
six : List ℤ
six = pos 384 ∷ pos 40960 ∷ negsuc 63 ∷ pos 0 ∷ negsuc 127 ∷ pos 128 ∷ []

darkest_and_lightest :
    summary_answer 3 2 six ≡ Ok (record { darkest = of_bits binary32 0xBF80_0000; lightest = of_bits binary32 0x43A0_0000 })
unfolding six summary_answer picked min_ℤ max_ℤ float_of round of_bits judged judged_by bad_size bad_side short first_bad first_from beyond_of
darkest_and_lightest = refl

-- column 2 and row 0 of it, half a grey below 0: Under by 16 and a half
half_under : reading_answer 3 2 2 0 six ≡ Ok (Under (of_bits binary32 0x4184_0000))
unfolding six reading_answer reading_of float_of round of_bits judged_point outside judged judged_by bad_size bad_side short first_bad first_from beyond_of
half_under = refl

-- refused under 6, row 1, column 0: the reading is Level 0, and both greys of the summary are 0
refused_reading :
    let r = reading_answer 2 2 1 0 two_bad in
    (r ≡ Err (BadSample (record { row = 1; column = 0 }))) × (reading_of_answer r ≡ Level (of_bits binary32 0))
unfolding two_bad reading_answer float_of round of_bits judged_point outside judged judged_by bad_size bad_side short first_bad first_from beyond_of
refused_reading = (refl, refl)

refused_summary :
    let r = summary_answer 2 2 two_bad in
    (r ≡ Err (BadSample (record { row = 1; column = 0 }))) × (summary_of_answer r ≡ record { darkest = of_bits binary32 0; lightest = of_bits binary32 0 })
unfolding two_bad summary_answer float_of round of_bits judged judged_by bad_size bad_side short first_bad first_from beyond_of
refused_summary = (refl, refl)

refused_figures :
    let v = judged 2 2 4 two_bad in
    (number_of v ≡ 6) × (row_of v ≡ 1) × (column_of v ≡ 0)
unfolding two_bad judged judged_by bad_size bad_side short first_bad first_from beyond_of
refused_figures = (refl, refl, refl)
