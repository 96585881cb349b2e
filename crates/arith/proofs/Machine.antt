-- Signed machine integers of the width w as elements of ℤ: ranges of shifts, quotients and remainders; what a test tells; casts;
-- a range from bounds, and from a bound on the size. A need speaks of what the machine reads back, `to_z w (of_z w x)`: one that has
-- more than a parameter in it is answered by `Compute`.
-- Assumes nothing.
use mathlib.Core.Path.{◌≡◌, refl, sym, subst}
use mathlib.Core.Bool.{Bool, true, false, not}
use Prim.Native.Nat.{ℕ, zero, suc, ◌*◌, ◌/◌, ◌%◌, ◌^◌, ◌≤◌, ◌<◌}
use native.Mathlib.Nat.{le_trans, le_of_eq, div-lt_iff_lt-mul, div-le_self, mod-le}
use lib.Dec.{T, ltb}
use lib.IntN.{ℤ, pos, negsuc, neg_ℤ, nat_abs}
use lib.Signed.{◌≤ℤ◌, ◌<ℤ◌, le_z, lt_z, le_z_yes, lt_z_yes, lt_z_no, shr_z, quot_z, rem_z, mag, mag_shr, mag_rem, non_neg, yes_non_neg, clash_ℤ}
use native.Mathlib.Omega.{arith}
use mir.Syntax.{Width}
use mir.Val.{Fits, SFits, to_z, of_z, bits, hbits}
use mir.Facts.{to_z-of_z, Fits-nat_abs}
use mir.ValLaws.{sfits_le}
use mathlib.Core.Logic.{◌↔◌}
use Rattle.arith.proofs.Bridge.{bridge, all1}
use Rattle.arith.proofs.Laws.{nat_abs_neg_ℤ, <ℤ_of_¬≤ℤ, pos_non_neg, positive}

-- a slice's element or a call's result is read back as it is: `.given` and `.ok` hand over its range as a size
pub read_back : (w : Width) (z : ℤ) → mag z < 2 ^ hbits w → to_z w (of_z w z) ≡ z
read_back w z h = to_z-of_z {w = w} {z = z} (record { sfits = h })

-- a shift keeps the range
pub shr-sfits : {w : Width} {z : ℤ} (m : ℕ) → SFits w z → SFits w (shr_z z m)
shr-sfits {w} {z} m f = sfits_le {z = z} (mag_shr z m) f

pub shr_size : (z : ℤ) (m : ℕ) → nat_abs (shr_z z m) ≤ nat_abs z
shr_size (pos a) m = div-le_self a m
shr_size (negsuc a) m = omega (arith, div-le_self a m)

pub shr-read : {w : Width} {z : ℤ} (m : ℕ) → SFits w z → to_z w (of_z w (shr_z z m)) ≡ shr_z z m
shr-read {w} {z} m f = to_z-of_z {w = w} {z = shr_z z m} (shr-sfits m f)

-- and narrows it, where the number is small enough: `shr_narrow 65536 z (omega arith) h`, with h : mag z < 2 ^ 31 * 65536 at 32 bits
pub shr_narrow : {w : Width} (m : ℕ) (z : ℤ) → 0 < m → mag z < 2 ^ hbits w * m → SFits w (shr_z z m)
shr_narrow m (pos n) p h = record { sfits = (div-lt_iff_lt-mul p).1 h }
shr_narrow m (negsuc n) p h = record { sfits = (div-lt_iff_lt-mul p).1 h }

-- ---- what a test of two signed numbers tells, as a branch hands it: an equation of the flag. Read its operands back first:
-- `lt-true x y (simp (to_z-of_z, c.ranges.x, c.ranges.y) at c.if-x-y.true)`
pub lt-true : (x y : ℤ) → lt_z x y ≡ true → x <ℤ y
lt-true x y e = lt_z_yes (subst T (sym e) tt)

pub lt-false : (x y : ℤ) → lt_z x y ≡ false → y ≤ℤ x
lt-false x y e = lt_z_no (subst (λ b. T (not b)) (sym e) tt)

pub le-true : (x y : ℤ) → le_z x y ≡ true → x ≤ℤ y
le-true x y e = le_z_yes (subst T (sym e) tt)

pub le-false : (x y : ℤ) → le_z x y ≡ false → y <ℤ x
le-false x y e = <ℤ_of_¬≤ℤ (λ h. subst T e h.le)

-- and back: what a test answers, from the order that it decides
pub true-lt : (x y : ℤ) → x <ℤ y → lt_z x y ≡ true
true-lt x y h = answer (lt_z x y) refl
  where
    answer : (b : Bool) → lt_z x y ≡ b → lt_z x y ≡ true
    answer true e = e
    answer false e = clash_ℤ h (lt-false x y e)

pub false-lt : (x y : ℤ) → y ≤ℤ x → lt_z x y ≡ false
false-lt x y h = answer (lt_z x y) refl
  where
    answer : (b : Bool) → lt_z x y ≡ b → lt_z x y ≡ false
    answer true e = clash_ℤ (lt-true x y e) h
    answer false e = e

pub false-le : (x y : ℤ) → y <ℤ x → le_z x y ≡ false
false-le x y h = answer (le_z x y) refl
  where
    answer : (b : Bool) → le_z x y ≡ b → le_z x y ≡ false
    answer true e = clash_ℤ h (le-true x y e)
    answer false e = e

-- ---- casts. To a wider signed type: `sfits_widen tt c.fits.x` (`mir.Facts`). To an unsigned one, of what is not negative:
pub cast_unsigned : {w w' : Width} {z : ℤ} → T (ltb (hbits w) (bits w')) → SFits w z → pos 0 ≤ℤ z → T (non_neg z) × Fits w' (nat_abs z)
cast_unsigned {z = z} t f h = (yes_non_neg {z = z} h, Fits-nat_abs t f)

-- a range in ℤ is `SFits`, and back
pub sfits-range : (w : Width) (z : ℤ) → SFits w z ↔ (neg_ℤ (pos (2 ^ hbits w)) ≤ℤ z) × (z <ℤ pos (2 ^ hbits w))
sfits-range w = all1 _ (simp bridge (λ a b. (λ h. (omega arith, omega arith), λ h. (omega arith, omega arith))))

-- from a bound on the size
pub sfits-nat_abs : {w : Width} (z : ℤ) {n : ℕ} → nat_abs z ≤ n → n < 2 ^ hbits w → SFits w z
sfits-nat_abs {w} z {n} h k = record { sfits = below z n (2 ^ hbits w) h k }
  where
    below : (z : ℤ) (n H : ℕ) → nat_abs z ≤ n → n < H → mag z < H
    below = all1 _ (simp bridge (omega arith))

-- ---- division by a positive number rounds toward zero, and keeps the range
pub quot-sfits : {w : Width} {z d : ℤ} → SFits w z → pos 0 <ℤ d → SFits w (quot_z z d)
quot-sfits {z = pos a} {d = pos b} f h = sfits_le {z = pos a} (div-le_self a b) f
quot-sfits {z = negsuc a} {d = pos b} f h = sfits_le {z = negsuc a} (less (suc a / b) (div-le_self (suc a) b)) f
  where
    less : (q : ℕ) → q ≤ suc a → mag (neg_ℤ (pos q)) ≤ a
    less zero k = omega arith
    less (suc q) k = omega arith
quot-sfits {z = pos a} {d = negsuc b} f h = absurd h.lt
quot-sfits {z = negsuc a} {d = negsuc b} f h = absurd h.lt

pub quot_size : (z d : ℤ) → nat_abs (quot_z z d) ≤ nat_abs z
quot_size (pos a) (pos b) = div-le_self a b
quot_size (pos a) (negsuc b) = le_trans (le_of_eq (nat_abs_neg_ℤ (pos (a / suc b)))) (div-le_self a (suc b))
quot_size (negsuc a) (pos b) = le_trans (le_of_eq (nat_abs_neg_ℤ (pos (suc a / b)))) (div-le_self (suc a) b)
quot_size (negsuc a) (negsuc b) = div-le_self (suc a) (suc b)

pub rem_size : (z d : ℤ) → nat_abs (rem_z z d) ≤ nat_abs z
rem_size (pos a) d = mod-le a (nat_abs d)
rem_size (negsuc a) d = le_trans (le_of_eq (nat_abs_neg_ℤ (pos (suc a % nat_abs d)))) (mod-le (suc a) (nat_abs d))

pub rem-sfits : {w : Width} (z d : ℤ) → SFits w z → SFits w (rem_z z d)
rem-sfits z d f = sfits_le {z = z} (mag_rem z d) f

pub quot_non_neg : {z d : ℤ} → pos 0 ≤ℤ z → pos 0 <ℤ d → pos 0 ≤ℤ quot_z z d
quot_non_neg {z = pos a} {d = pos b} h k = pos_non_neg (a / b)
quot_non_neg {z = negsuc a} {d = pos b} h k = absurd h.le
quot_non_neg {z = pos a} {d = negsuc b} h k = absurd k.lt
quot_non_neg {z = negsuc a} {d = negsuc b} h k = absurd k.lt

-- the divisor's bits are not 0
pub divisor_bits : (w : Width) (d : ℤ) → pos 0 <ℤ d → 0 < of_z w d
divisor_bits w (pos b) h = positive b h
divisor_bits w (negsuc b) h = absurd h.lt
