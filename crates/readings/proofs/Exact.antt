-- Floats: a sample, or the difference of two, converts to a 32-bit float and is multiplied by 1/128 with nothing rounded. Assumes nothing.
use Prim.Native.Nat.{ℕ, suc, ◌*◌, ◌≤◌, ◌^◌}
use mathlib.Core.Path.{◌≡◌, refl, sym, ap, ◌∙◌}
use mathlib.Core.Bool.{Bool, true, false, not}
use native.Mathlib.Nat.{mul_assoc, mul-pos, lt_of_le_of_lt, mul-le-mul_right}
use native.Mathlib.Omega.{arith}
use lib.Dec.{T, lit<, le→leb, lt→ltb}
use lib.IntN.{ℤ, pos, negsuc, nat_abs}
use lib.Signed.{non_neg}
use lib.Ieee.{Float, nan, inf, fin, binary32, unlike, up, down, round, mul, of_int, of_bits, in_float}
use lib.Ieee.Exact.{HasValue, round_exact}
use lib.Ieee.Scale.{round_same}
use lib.Ieee.Back.{round_whole}
use lib.Ieee.Fits.{down_pos, round-fits}
use Rattle.readings.specs.Sample.{float_of, Exactly}
use Rattle.readings.specs.Answers.{range}

-- a size of at most 2²⁴ converts
pub converts : (v : ℤ) → nat_abs v ≤ 2 * range → T (in_float binary32 v)
unfolding in_float
converts (pos n) h = le→leb n 16777216 (omega arith)
converts (negsuc n) h = lt→ltb n 16777216 (omega arith)

converted : (v : ℤ) → nat_abs v ≤ 2 * range → HasValue (of_int binary32 v) (not (non_neg v)) (nat_abs v) 1
unfolding of_int
converted (pos n) h = round_whole binary32 false n (omega arith)
converted (negsuc n) h = round_whole binary32 true (suc n) (omega arith)

-- 1/128, which the code writes 0.0078125, by its bits
part : Float
part = fin false 1 (negsuc 6)

part_bits : of_bits binary32 1006632960 ≡ part
unfolding of_bits part
part_bits = refl

-- a whole number times 1/128
product : (x : Float) (s : Bool) (n : ℕ) → HasValue x s n 1 → mul binary32 x part ≡ round binary32 s n 128
unfolding mul part
product nan s n h = absurd h
product (inf t) s n h = absurd h
product (fin t m e) s n h =
    ap (λ (b : Bool). round binary32 b (m * up e * 1) (down e * 128)) (like t ∙ h.0)
    ∙ round_same binary32 s (m * up e * 1) (down e * 128) n 128 (mul-pos (down_pos e) (lit< tt)) (lit< tt)
    (ap (λ (k : ℕ). k * 128) h.1 ∙ mul_assoc n (down e) 128)
  where
    like : (t : Bool) → unlike t false ≡ t
    like true = refl
    like false = refl

-- what the code computes
pub float_is : (v : ℤ) → nat_abs v ≤ 2 * range → mul binary32 (of_int binary32 v) (of_bits binary32 1006632960) ≡ float_of v
unfolding float_of
float_is v h = rw part_bits (product (of_int binary32 v) (not (non_neg v)) (nat_abs v) (converted v h))

-- and nothing is rounded
pub float_exact : (v : ℤ) → nat_abs v ≤ 2 * range → Exactly (float_of v) v
unfolding float_of
float_exact v h = record {
  value =
      round_exact binary32 (not (non_neg v)) (nat_abs v) 128 (nat_abs v) 142 (lit< tt) (omega arith)
      (lt_of_le_of_lt (mul-le-mul_right (2 ^ 142) h) (lit< tt))
      (sym (mul_assoc (nat_abs v) (2 ^ 142) 128));
  held = round-fits binary32 (not (non_neg v)) (nat_abs v) 128;
}

-- the code's 0.0
pub zero_bits : of_bits binary32 0 ≡ float_of (pos 0)
unfolding of_bits float_of round
zero_bits = refl
