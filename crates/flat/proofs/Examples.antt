-- Answers of the calls, laid out as C and Rust receive them and computed. Assumes nothing.
use mathlib.Core.Path.{◌≡◌, refl}
use mathlib.Core.List.{List, [], ◌∷◌}
use lib.IntN.{ℤ, pos, negsuc}
use lib.Ieee.{binary32, round, of_bits}
use Rattle.arith.specs.Whole.{min_ℤ, max_ℤ}
use Rattle.lists.specs.Ends.{picked}
use Rattle.refusals.specs.Tests.{bad_side, bad_size, short, beyond_of, first_from, first_bad}
use Rattle.steps.specs.Step.{entry, S, sine_of}
use Rattle.levelling.specs.Level.{outside, any_outside, steep, direction_of, level_of}
use Rattle.readings.specs.Sample.{float_of, reading_of}
use Rattle.readings.specs.Answers.{judged_by, judged, judged_point, reading_answer, summary_answer}
use Rattle.readings.specs.Answers.{outside as point_outside}
use Rattle.flat.specs.Exported.{of_verdict, of_step, of_reading, of_summary}

-- S(1000) is 1,887; step 1,698 is refused with 4
sine-1000 : of_step (sine_of (pos 1000)) ≡ record { number = 0; value = pos 1887 }
unfolding sine_of beyond_of S entry
sine-1000 = refl

sine-1698 : of_step (sine_of (pos 1698)) ≡ record { number = 4; value = pos 0 }
unfolding sine_of beyond_of
sine-1698 = refl

-- a point outside is 7, an upright line 8
level-outside : of_step (level_of 1024 1024 (pos 0) (pos 0) (pos 1024) (pos 0)) ≡ record { number = 7; value = pos 0 }
unfolding level_of any_outside outside
level-outside = refl

level_upright : of_step (level_of 1024 1024 (pos 5) (pos 0) (pos 5) (pos 0)) ≡ record { number = 8; value = pos 0 }
unfolding level_of direction_of any_outside outside steep
level_upright = refl

-- a picture 3 wide and 1 high reads Under by 16 and a half greys, Level 17 and Over by 21
three : List ℤ
three = negsuc 63 ∷ pos 2176 ∷ pos 32768 ∷ []

reads_under : of_reading (reading_answer 3 1 0 0 three) ≡ record { number = 0; row = 0; column = 0; kind = 1; greys = of_bits binary32 0x4184_0000 }
unfolding three reading_answer reading_of float_of round of_bits judged_point point_outside judged judged_by bad_size bad_side short first_bad first_from beyond_of
reads_under = refl

reads_level : of_reading (reading_answer 3 1 1 0 three) ≡ record { number = 0; row = 0; column = 0; kind = 0; greys = of_bits binary32 0x4188_0000 }
unfolding three reading_answer reading_of float_of round of_bits judged_point point_outside judged judged_by bad_size bad_side short first_bad first_from beyond_of
reads_level = refl

reads_over : of_reading (reading_answer 3 1 2 0 three) ≡ record { number = 0; row = 0; column = 0; kind = 2; greys = of_bits binary32 0x41A8_0000 }
unfolding three reading_answer reading_of float_of round of_bits judged_point point_outside judged judged_by bad_size bad_side short first_bad first_from beyond_of
reads_over = refl

-- its darkest grey is -1/2, its lightest 256
darkest_and_lightest :
    of_summary (summary_answer 3 1 three)
    ≡ record { number = 0; row = 0; column = 0; darkest = of_bits binary32 0xBF00_0000; lightest = of_bits binary32 0x4380_0000 }
unfolding three summary_answer picked min_ℤ max_ℤ float_of round of_bits judged judged_by bad_size bad_side short first_bad first_from beyond_of
darkest_and_lightest = refl

-- a picture 2 wide and 2 high, whose first sample beyond ±1,048,576 is in row 1 and column 0
bad : List ℤ
bad = pos 0 ∷ pos 0 ∷ pos 1048577 ∷ pos 0 ∷ []

refused_verdict : of_verdict (judged 2 2 4 bad) ≡ record { number = 6; row = 1; column = 0; count = 0; smallest = pos 0; largest = pos 0 }
unfolding bad judged judged_by bad_size bad_side short first_bad first_from beyond_of
refused_verdict = refl

refused_reading : of_reading (reading_answer 2 2 1 1 bad) ≡ record { number = 6; row = 1; column = 0; kind = 0; greys = of_bits binary32 0 }
unfolding bad reading_answer float_of round of_bits judged_point point_outside judged judged_by bad_size bad_side short first_bad first_from beyond_of
refused_reading = refl

refused_summary :
    of_summary (summary_answer 2 2 bad) ≡ record { number = 6; row = 1; column = 0; darkest = of_bits binary32 0; lightest = of_bits binary32 0 }
unfolding bad summary_answer float_of round of_bits judged judged_by bad_size bad_side short first_bad first_from beyond_of
refused_summary = refl
