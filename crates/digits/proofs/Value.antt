-- What digits write, read from the front, in a loop over four at most. Assumes nothing.
use Prim.Native.Nat.{ℕ, ◌+◌, ◌*◌, ◌^◌, ◌≤◌, ◌<◌}
use mathlib.Core.List.{List}
use mathlib.Core.Path.{◌≡◌}
use native.Mathlib.Nat.{pow-le-pow_right, pow-suc, zero-lt-suc, le_trans}
use native.Mathlib.Numerals.{add-one}
use native.Mathlib.Omega.{arith}
use lib.ListN.{length, drop, get_or, drop_of_length-le}
use lib.Seq.{drop-cons}
use Rattle.digits.specs.Digit.{digit_value, value_from, hex_value}

pub value_more : (s : List ℕ) (v i : ℕ) → i < length s → value_from v (drop i s) ≡ hex_value s
    → value_from (v * 16 + digit_value (get_or s i 0)) (drop (i + 1) s) ≡ hex_value s
unfolding value_from
value_more s v i h e = rw add-one (rw (drop-cons s i 0 h) at e)

pub value_all : (s : List ℕ) (v i : ℕ) → length s ≤ i → value_from v (drop i s) ≡ hex_value s → v ≡ hex_value s
unfolding value_from
value_all s v i h e = rw (drop_of_length-le s h) at e

-- i digits write a number below 16^i
pub four_digits : (i n : ℕ) → i ≤ n → n ≤ 4 → 16 ^ i ≤ 65536
four_digits i n h k = pow-le-pow_right (zero-lt-suc 15) (le_trans h k)

pub more_digits : (v r i : ℕ) → v < 16 ^ i → r < 16 → v * 16 + r < 16 ^ (i + 1)
more_digits v r i h k = rw (add-one, pow-suc) (omega arith)
