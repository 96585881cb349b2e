-- What a test that failed tells, and one that held. Assumes nothing.
use Prim.Native.Nat.{ℕ, ◌≤◌, ◌<◌}
use mathlib.Core.Path.{◌≡◌, refl}
use mathlib.Core.Bool.{Bool, true, false, ◌||◌, true≢false}
use native.Mathlib.Omega.{arith}
use lib.Dec.{ltb, eqb}
use lib.IntN.{ℤ, nat_abs}
use borrow.Author.Tests.{ltb-true, ltb-false, lt-ltb, le-ltb, eqb-false}
use Rattle.refusals.specs.Tests.{side_beyond, bad_side, bad_size, short, bad_kernel, beyond_of}

pub or_false : (a b : Bool) → (a || b) ≡ false → (a ≡ false) × (b ≡ false)
or_false true b e = absurd (true≢false e)
or_false false b e = (refl, e)

-- a side from 1 to the most
pub side_within : (most n : ℕ) → side_beyond most n ≡ false → (1 ≤ n) × (n ≤ most)
side_within most n e = let p = or_false (eqb n 0) (ltb most n) e in (some n (eqb-false n 0 p.0), ltb-false most n p.1)
  where
    some : (n : ℕ) → (n ≡ 0 → ⊥) → 1 ≤ n
    some n h = omega arith

pub side_good : {n : ℕ} → bad_side n ≡ false → (1 ≤ n) × (n ≤ 1024)
unfolding bad_side
side_good {n} e = side_within 1024 n e

pub size_good : {width height : ℕ} → bad_size width height ≡ false → ((1 ≤ width) × (width ≤ 1024)) × ((1 ≤ height) × (height ≤ 1024))
unfolding bad_size
size_good {width} {height} e = let p = or_false (bad_side width) (bad_side height) e in (side_good p.0, side_good p.1)

-- a buffer long enough
pub short_good : {have need : ℕ} → short have need ≡ false → need ≤ have
unfolding short
short_good {have} {need} e = ltb-false have need e

-- a kernel that there is
pub kernel_good : {kernel : ℕ} → bad_kernel kernel ≡ false → kernel ≤ 2
unfolding bad_kernel
kernel_good {kernel} e = ltb-false 2 kernel e

-- a number within ±limit, and one beyond it
pub beyond_good : {limit : ℕ} (v : ℤ) → beyond_of limit v ≡ false → nat_abs v ≤ limit
unfolding beyond_of
beyond_good {limit} v e = ltb-false limit (nat_abs v) e

pub beyond_bad : {limit : ℕ} (v : ℤ) → beyond_of limit v ≡ true → limit < nat_abs v
unfolding beyond_of
beyond_bad {limit} v e = ltb-true limit (nat_abs v) e

-- and back
pub good_beyond : {limit : ℕ} (v : ℤ) → nat_abs v ≤ limit → beyond_of limit v ≡ false
unfolding beyond_of
good_beyond {limit} v h = le-ltb limit (nat_abs v) h

pub bad_beyond : {limit : ℕ} (v : ℤ) → limit < nat_abs v → beyond_of limit v ≡ true
unfolding beyond_of
bad_beyond {limit} v h = lt-ltb limit (nat_abs v) h
