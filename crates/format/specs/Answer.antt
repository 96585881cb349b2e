-- The answer to a line: 9 alone; else the lowest of 1, 3, 4 and 5 that applies, with the step in its numeric place; else the picture
-- straightened. Each answer ends in a line feed. Assumes nothing.
use Rattle.std.specs.Prelude.{ℕ, zero, suc, Bool, cond, ◌&&◌, Result, List, [], ◌∷◌, ◌++◌, eqb, ℤ, pos, neg_ℤ, length, get_or}
use Rattle.lists.specs.Tab.{cat}
use Rattle.kernels.specs.Kernel.{kernel_of}
use Rattle.passes.specs.Picture.{shear, straighten}
use Rattle.passes.specs.Count.{count}
use Rattle.settings.specs.declared.Border.TheVariants.{Wrapped}
use Rattle.settings.specs.declared.Setting.{Setting}
use Rattle.refusals.specs.Tests.{bad_size, bad_kernel}
use Rattle.refusals.specs.declared.Refusal.{Refusal}
use Rattle.steps.specs.Step.{beyond, S, change_of}
use Rattle.acceptance.specs.Judge.{bad_centre}
use Rattle.digits.specs.Digit.{hex_digits, word32}
use Rattle.format.specs.Line.{kernel_in, step_in, width_in, height_in, cx_in, cy_in, well_formed, samples_in}

-- a setting of the line's kernel and centre with wrapped edges, before its step; and changed by its step, refused with 4 where the step is beyond its
-- range
unfoldable pub unchanged_in : List ℕ → Setting
unchanged_in line = record { kernel = kernel_in line; cx = cx_in line; cy = cy_in line; a = pos 0; b = pos 0; border = Wrapped }

unfoldable pub change_in : List ℕ → Result Setting Refusal
change_in line = change_of (unchanged_in line) (step_in line)

-- the setting that a line names: step t sets A = -t and B = S(t)
unfoldable pub setting_in : List ℕ → Setting
setting_in line = record { kernel = kernel_in line; cx = cx_in line; cy = cy_in line; a = neg_ℤ (step_in line); b = S (step_in line); border = Wrapped }

-- the lowest number that applies to a well-formed line, 0 where none does
unfoldable pub number_of : List ℕ → ℕ
number_of line =
    cond (bad_size (width_in line) (height_in line)) 1
    (cond (bad_centre (width_in line) (height_in line) (setting_in line)) 3
    (cond (beyond (step_in line)) 4
    (cond (bad_kernel (kernel_in line)) 5 0)))

-- the lines interpolated, and the samples of the picture straightened
unfoldable pub count_of : List ℕ → ℕ
count_of line = count Wrapped (width_in line) (height_in line) (shear (neg_ℤ (step_in line)) (cy_in line)) (shear (S (step_in line)) (cx_in line))

unfoldable pub straightened_of : List ℕ → List ℤ
straightened_of line =
    straighten Wrapped (kernel_of (kernel_in line)) (width_in line) (height_in line)
    (shear (neg_ℤ (step_in line)) (cy_in line)) (shear (S (step_in line)) (cx_in line))
    (samples_in line)

-- a refused line prints its number (2), row (4), column (4)
unfoldable pub refusal_text : ℕ → ℕ → ℕ → List ℕ
refusal_text number row column = hex_digits 2 number ++ (hex_digits 4 row ++ (hex_digits 4 column ++ (10 ∷ [])))

-- samples of eight digits, in two's complement
unfoldable pub samples_text : List ℤ → List ℕ
samples_text samples = cat (λ k. hex_digits 8 (word32 (get_or samples k (pos 0)))) (length samples)

-- an accepted line prints 00, the count (4), W (4), H (4), then the samples
unfoldable pub accepted_text : ℕ → ℕ → ℕ → List ℤ → List ℕ
accepted_text n W H samples =
    hex_digits 2 0 ++ (hex_digits 4 n ++ (hex_digits 4 W ++ (hex_digits 4 H ++ (samples_text samples ++ (10 ∷ [])))))

-- row and column are 0
unfoldable pub judged_text : ℕ → List ℕ → List ℕ
judged_text zero line = accepted_text (count_of line) (width_in line) (height_in line) (straightened_of line)
judged_text (suc n) line = refusal_text (suc n) 0 0

unfoldable pub answer_of : List ℕ → List ℕ
answer_of line = cond (well_formed line) (judged_text (number_of line) line) (refusal_text 9 0 0)

-- a line that no number applies to
unfoldable pub is_accepted : List ℕ → Bool
is_accepted line = well_formed line && eqb (number_of line) 0
