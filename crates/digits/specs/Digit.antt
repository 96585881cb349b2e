-- Upper-case hexadecimal digits as bytes: which they are, what they stand for, and numbers written with them, the highest digit first.
-- Assumes nothing.
use Rattle.std.specs.Prelude.{ℕ, zero, suc, ◌+◌, ◌*◌, ◌-◌, ◌/◌, ◌%◌, Bool, true, ◌&&◌, ◌||◌, cond, List, [], ◌∷◌, ◌++◌, map, leb, ltb, ℤ, pos, nat_abs, ◌+ℤ◌, ◌-ℤ◌}
use Rattle.words.specs.Word.{bytes_of}

-- 0 to 9 are the bytes 48 to 57, A to F the bytes 65 to 70
unfoldable pub is_digit : ℕ → Bool
is_digit b = (leb 48 b && leb b 57) || (leb 65 b && leb b 70)

-- digits and nothing else
unfoldable pub all_digits : List ℕ → Bool
all_digits [] = true
all_digits (b ∷ bs) = is_digit b && all_digits bs

-- a word passes exactly when each of its eight bytes is 0 to 9 or A to F
unfoldable pub passes : ℕ → Bool
passes w = all_digits (bytes_of 8 w)

-- what a digit stands for
unfoldable pub digit_value : ℕ → ℕ
digit_value b = cond (ltb b 58) (b - 48) (b - 55)

-- the number that digits write, behind v
unfoldable pub value_from : ℕ → List ℕ → ℕ
value_from v [] = v
value_from v (b ∷ bs) = value_from (v * 16 + digit_value b) bs

unfoldable pub hex_value : List ℕ → ℕ
hex_value bs = value_from 0 bs

-- the digit for a number below 16
unfoldable pub digit_of : ℕ → ℕ
digit_of v = cond (ltb v 10) (48 + v) (55 + v)

-- the lowest n places of v to the base 16, each a number
unfoldable pub places_of : ℕ → ℕ → List ℕ
places_of zero v = []
places_of (suc n) v = places_of n (v / 16) ++ (v % 16 ∷ [])

-- the lowest n digits of v
unfoldable pub hex_digits : ℕ → ℕ → List ℕ
hex_digits n v = map digit_of (places_of n v)

-- the digit for the lowest place of any byte
unfoldable pub spelt : ℕ → ℕ
spelt b = digit_of (b % 16)

-- two's complement: four digits' number v as a signed one; and the lowest eight digits of word32 v are those of v, for a negative v too
unfoldable pub signed16 : ℕ → ℤ
signed16 v = cond (ltb v 32768) (pos v) (pos v -ℤ pos 65536)

unfoldable pub word32 : ℤ → ℕ
word32 v = nat_abs (v +ℤ pos 4294967296)
