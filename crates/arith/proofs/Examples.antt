-- Worked examples: which tool proves what. Each proof is one line.
-- Assumes nothing.
use mathlib.Core.Path.{◌≡◌}
use Prim.Native.Nat.{ℕ, ◌+◌, ◌≤◌, ◌<◌}
use native.Mathlib.Omega.{arith}
use lib.IntN.{ℤ, pos, negsuc, nat_abs, ◌+ℤ◌, ◌-ℤ◌, ◌*ℤ◌}
use lib.Signed.{◌≤ℤ◌, ◌<ℤ◌, shr_z, quot_z, rem_z}
use mir.Syntax.{w32, w64}
use mir.Val.{SFits}
use Rattle.arith.proofs.Bridge.{bridge, prod, all1, all2, all3, all4}
use Rattle.arith.specs.Whole.{min_ℤ, max_ℤ, round}
use Rattle.arith.proofs.Ring.{var, ◌⊞◌, ⊟◌, ring, reify, vars2, vars3, vars4}
use Rattle.arith.proofs.Cert.{linear, rounding, refute, equal, ◌⊕◌, ◌⊗◌, ◌·◌, ◌⊙◌, square}
use Rattle.arith.proofs.Divide.{division}

-- ---- `bridge`: linear, with hypotheses, equations, negations and conjunctions
linear_goal : (x y : ℤ) → (x +ℤ pos 4096) ≤ℤ y → (pos 3 *ℤ x) ≤ℤ (pos 2 *ℤ y +ℤ (x -ℤ pos 8192))
linear_goal = all2 _ (simp bridge (omega arith))

whole_numbers : (x y : ℤ) → (pos 2 *ℤ x) ≤ℤ (pos 2 *ℤ y +ℤ pos 1) → x ≤ℤ y
whole_numbers = all2 _ (simp bridge (omega arith))

not_equal : (x y : ℤ) → ¬ (x ≡ y) → x ≤ℤ y → (x <ℤ y) × ¬ (y ≤ℤ x)
not_equal = all2 _ (simp bridge (omega arith))

large : (x y : ℤ) → x ≤ℤ pos 18446744073709551615 → negsuc 18446744073709551615 ≤ℤ y → (x -ℤ y) <ℤ pos 36893488147419103232
large = all2 _ (simp bridge (omega arith))

-- a natural among the integers; it may also be bound first, `with_natural n = all1 _ (..)`
with_natural : (x : ℤ) (m n : ℕ) → x ≤ℤ (pos m -ℤ pos n) → n ≤ m → (x +ℤ pos n) ≤ℤ pos m
with_natural = all1 _ (simp bridge (omega arith))

-- ---- `bridge`: sizes, ranges, the lesser and the greater
errors_add : (x y x' y' : ℤ) (d e : ℕ) → nat_abs (x -ℤ x') ≤ d → nat_abs (y -ℤ y') ≤ e → nat_abs ((x +ℤ y) -ℤ (x' +ℤ y')) ≤ d + e
errors_add = all4 _ (simp bridge (omega arith))

sum_fits : (x y : ℤ) → SFits w32 x → SFits w32 y → SFits w64 (x +ℤ y)
sum_fits = all2 _ (simp bridge (omega arith))

clamped : (x lo hi : ℤ) → lo ≤ℤ hi → (lo ≤ℤ max_ℤ lo (min_ℤ x hi)) × (max_ℤ lo (min_ℤ x hi) ≤ℤ hi)
clamped = all3 _ (simp bridge (omega arith))

-- ---- `bridge`: products, by the facts that are handed over. `prod h k` of p ≤ q and r ≤ s says that (q − p)·(s − r) is not negative
mean_below : (a b f : ℤ) → a ≤ℤ pos 294912 → b ≤ℤ pos 294912 → pos 0 ≤ℤ f → f ≤ℤ pos 4096 → (a *ℤ (pos 4096 -ℤ f) +ℤ b *ℤ f) ≤ℤ pos 1207959552
mean_below = all3 _ (simp bridge (λ a a' b b' f f' ha hb low high. omega (arith, prod ha high, prod hb low)))

-- ---- `division`: by a numeral, rounded down, to the nearest, and toward zero
error_of_round : (p : ℤ) → nat_abs (pos 4096 *ℤ round p 4096 -ℤ p) ≤ 2048
error_of_round = all1 _ (simp division (omega arith))

rounded_twice : (p : ℤ) → nat_abs (pos 256 *ℤ round (round p 16) 16 -ℤ p) ≤ 136
rounded_twice = all1 _ (simp division (omega arith))

shifts : (z : ℤ) → shr_z (shr_z z 16) 16 ≡ shr_z z 256
shifts = all1 _ (simp division (omega arith))

quotient_and_remainder : (z : ℤ) → (z ≡ pos 10 *ℤ quot_z z (pos 10) +ℤ rem_z z (pos 10)) × (nat_abs (rem_z z (pos 10)) < 10)
quotient_and_remainder = all1 _ (simp division (omega arith))

-- ---- `ring`: polynomials of any degree
cube : (x y : ℤ) → (x +ℤ y) *ℤ (x +ℤ y) *ℤ (x +ℤ y) ≡ x *ℤ x *ℤ x +ℤ pos 3 *ℤ x *ℤ x *ℤ y +ℤ pos 3 *ℤ x *ℤ y *ℤ y +ℤ y *ℤ y *ℤ y
cube = vars2 _ (simp reify (λ ρ. ring tt))

large_coefficients : (x y : ℤ)
    → (x +ℤ pos 18446744073709551616) *ℤ (y -ℤ pos 18446744073709551616)
    ≡ x *ℤ y -ℤ pos 18446744073709551616 *ℤ x +ℤ pos 18446744073709551616 *ℤ y -ℤ pos 340282366920938463463374607431768211456
large_coefficients = vars2 _ (simp reify (λ ρ. ring tt))

-- ---- certificates: the goal is a sum of products and multiples of the hypotheses, and of squares, and a constant that is not negative
crossed : (a b c d : ℤ) → a ≤ℤ b → c ≤ℤ d → (a *ℤ d +ℤ b *ℤ c) ≤ℤ (a *ℤ c +ℤ b *ℤ d)
crossed = vars4 _ (simp reify (λ ρ h k. linear (h ⊗ k) tt))

three_factors : (x y z : ℤ) → pos 1 ≤ℤ x → pos 1 ≤ℤ y → pos 1 ≤ℤ z → (x +ℤ y +ℤ z) ≤ℤ (x *ℤ y *ℤ z +ℤ pos 2)
three_factors = vars3 _ (simp reify (λ ρ hx hy hz. linear (hx ⊗ hy ⊗ hz ⊕ hx ⊗ hy ⊕ hy ⊗ hz ⊕ hx ⊗ hz) tt))

two_products : (x y : ℤ) → (pos 2 *ℤ x *ℤ y) ≤ℤ (x *ℤ x +ℤ y *ℤ y)
two_products = vars2 _ (simp reify (λ ρ. linear (square (var 0 ⊞ ⊟ var 1)) tt))

by_multiples : (x y : ℤ) → (x +ℤ pos 4096) ≤ℤ y → (pos 3 *ℤ x) ≤ℤ (pos 2 *ℤ y +ℤ (x -ℤ pos 8192))
by_multiples = vars2 _ (simp reify (λ ρ h. linear (2 · h) tt))

by_rounding : (x y : ℤ) → (pos 2 *ℤ x) ≤ℤ (pos 2 *ℤ y +ℤ pos 1) → x ≤ℤ y
by_rounding = vars2 _ (simp reify (λ ρ h. rounding 1 h tt))

-- an equation, from an equation times an expression
by_an_equation : (x y z : ℤ) → x *ℤ x ≡ y → x *ℤ x *ℤ z ≡ z *ℤ y
by_an_equation = vars3 _ (simp reify (λ ρ e. equal (var 2 ⊙ e) tt))

impossible : (x y : ℤ) → x <ℤ y → y <ℤ (x +ℤ pos 1) → ⊥
impossible = vars2 _ (simp reify (λ ρ h k. refute (h ⊕ k) tt))
