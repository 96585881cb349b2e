-- Division by a numeral, read by `omega`: with `division` for `bridge`, a statement may hold `floor z 4096`, `round z 4096`,
-- `shr_z z 4096`, and the machine's `quot_z z (pos 10)` and `rem_z z (pos 10)`, at any numeral.
--     name : (x : ℤ) → pos 0 ≤ℤ x → (pos 2 *ℤ quot_z x (pos 2)) ≤ℤ x
--     name = all1 _ (simp division (omega arith))
-- Assumes nothing.
use mathlib.Core.Path.{◌≡◌, refl, sym, ◌∙◌, subst}
use mathlib.Core.Bool.{true}
use Prim.Native.Nat.{ℕ, zero, suc, ◌+◌, ◌*◌, ◌-◌, ◌/◌, ◌%◌, ◌≤◌, ◌<◌}
use native.Mathlib.Nat.{div-add-mod, mod-lt, zero-div, zero-mod, lt_irrefl}
use native.Mathlib.Numerals.{sub-one}
use native.Mathlib.Omega.{arith}
use lib.Dec.{T, ltb, ltb→lt}
use lib.IntN.{ℤ, pos, negsuc, neg_ℤ, ◌+ℤ◌, ◌*ℤ◌}
use lib.Signed.{shr_z, quot_z, rem_z}
use Rattle.arith.proofs.Bridge.{D, D_cases, pos-D, neg-pos-D, bridge}
use Rattle.arith.specs.Whole.{floor, round}
use Rattle.arith.proofs.Round.{floor_only, shr-floor}

-- (a − b) / m, rounded down, is (a + (m − 1)·b) / m − b
pub D-floor : (a b m : ℕ) → ltb 0 m ≡ true → floor (D a b) m ≡ D ((a + (m - 1) * b) / m) b
D-floor a b m e =
    floor_only positive
    (record {
      lower = simp bridge (omega (arith, div-add-mod (a + (m - 1) * b) m, whole));
      upper = simp bridge (omega (arith, div-add-mod (a + (m - 1) * b) m, mod-lt (a + (m - 1) * b) positive, whole));
    })
  where
    positive : 0 < m
    positive = ltb→lt 0 m (subst T (sym e) tt)

    whole : (m - 1) * b + b ≡ m * b
    whole = times m positive
      where
        times : (m : ℕ) → 0 < m → (m - 1) * b + b ≡ m * b
        times zero h = absurd (lt_irrefl 0 h)
        times (suc m) h = rw (sub-one (suc m)) (omega arith)

pub D-shr : (a b m : ℕ) → ltb 0 m ≡ true → shr_z (D a b) m ≡ D ((a + (m - 1) * b) / m) b
D-shr a b m e = shr-floor (D a b) m ∙ D-floor a b m e

pub round_as : (p : ℤ) (r : ℕ) → round p r ≡ floor (pos 2 *ℤ p +ℤ pos r) (2 * r)
unfolding round
round_as p r = refl

-- toward zero: what goes by sizes alone, since of a - b and b - a one is 0
toward_zero : (f : ℕ → ℕ) (g : ℤ → ℤ) → f 0 ≡ 0 → ((a : ℕ) → g (pos a) ≡ pos (f a)) → ((a : ℕ) → g (negsuc a) ≡ neg_ℤ (pos (f (suc a))))
    → (a b : ℕ) → g (D a b) ≡ D (f (a - b)) (f (b - a))
toward_zero f g z up down a b = D_cases a b (λ x. g x ≡ D (f (a - b)) (f (b - a))) (λ h. above h) (λ h. below h)
  where
    above : b ≤ a → g (pos (a - b)) ≡ D (f (a - b)) (f (b - a))
    above h = rw (none, z) (up (a - b) ∙ pos-D (f (a - b)))
      where
        none : b - a ≡ 0
        none = omega arith

    below : a < b → g (negsuc (b - suc a)) ≡ D (f (a - b)) (f (b - a))
    below h = rw (none, z, ← size) (down (b - suc a) ∙ neg-pos-D (f (suc (b - suc a))))
      where
        none : a - b ≡ 0
        none = omega arith

        size : suc (b - suc a) ≡ b - a
        size = omega arith

pub D-quot : (a b m : ℕ) → quot_z (D a b) (D m 0) ≡ D ((a - b) / m) ((b - a) / m)
D-quot a b m = rw (← pos-D m) (toward_zero (λ n. n / m) (λ z. quot_z z (pos m)) (zero-div m) (λ a. refl) (λ a. refl) a b)

pub D-rem : (a b m : ℕ) → rem_z (D a b) (D m 0) ≡ D ((a - b) % m) ((b - a) % m)
D-rem a b m = rw (← pos-D m) (toward_zero (λ n. n % m) (λ z. rem_z z (pos m)) (zero-mod m) (λ a. refl) (λ a. refl) a b)

pub ruleset division = (bridge, D-floor, D-shr, round_as, D-quot, D-rem)
