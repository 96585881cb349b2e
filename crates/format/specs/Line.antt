-- What a line says, without its line feed, and when it is well formed. Assumes nothing.
use Rattle.std.specs.Prelude.{ℕ, ◌+◌, ◌*◌, Bool, ◌&&◌, List, leb, eqb, ℤ, pos, length, take, drop, get_or}
use Rattle.lists.specs.Tab.{tab}
use Rattle.digits.specs.Digit.{all_digits, digit_value, hex_value, signed16}

-- a field of four digits
unfoldable pub field_at : List ℕ → ℕ → ℕ
field_at line at = hex_value (take 4 (drop at line))

-- kernel 2 digits, step 4 in two's complement, W, H, cx and cy 4 each
abbrev pub kernel_in : List ℕ → ℕ
kernel_in line = hex_value (take 2 line)

abbrev pub step_in : List ℕ → ℤ
step_in line = signed16 (field_at line 2)

abbrev pub width_in : List ℕ → ℕ
width_in line = field_at line 6

abbrev pub height_in : List ℕ → ℕ
height_in line = field_at line 10

abbrev pub cx_in : List ℕ → ℕ
cx_in line = field_at line 14

abbrev pub cy_in : List ℕ → ℕ
cy_in line = field_at line 18

-- W·H
abbrev pub size_in : List ℕ → ℕ
size_in line = width_in line * height_in line

-- number 9 does not apply: 22 or more digits and nothing else, W·H not over 4,096, and 22 + 2·W·H digits
unfoldable pub well_formed : List ℕ → Bool
well_formed line =
    leb 22 (length line)
    && (all_digits line
    && (leb (size_in line) 4096
    && eqb (length line) (22 + 2 * size_in line)))

-- grey k, of two digits
abbrev pub grey_at : List ℕ → ℕ → ℕ
grey_at line k = digit_value (get_or line (22 + 2 * k) 0) * 16 + digit_value (get_or line (23 + 2 * k) 0)

-- each grey times 128 is a sample
unfoldable pub sample_at : List ℕ → ℕ → ℤ
sample_at line k = pos (grey_at line k * 128)

unfoldable pub samples_in : List ℕ → List ℤ
samples_in line = tab (sample_at line) (size_in line)
