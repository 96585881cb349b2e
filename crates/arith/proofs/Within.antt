-- |x| ≤ B over ℤ, as two inequalities: the form in which certificates use and prove a bound. Assumes nothing.
use mathlib.Core.Path.{◌≡◌, subst}
use Prim.Native.Nat.{ℕ, zero, suc, ◌*◌, ◌≤◌, ◌<◌}
use native.Mathlib.Omega.{arith}
use lib.IntN.{ℤ, pos, neg_ℤ, nat_abs, ◌+ℤ◌, ◌-ℤ◌, ◌*ℤ◌}
use lib.Signed.{◌≤ℤ◌, ◌<ℤ◌, le_z_yes}
use Rattle.arith.proofs.Bridge.{bridge, all1, all2, all3, all4}
use Rattle.arith.proofs.Laws.{cancel_≤, nat_abs-≤}
use Rattle.arith.specs.Whole.{round}
use Rattle.arith.proofs.Round.{round_error}
use Rattle.arith.specs.Sum.{Σ}

abbrev pub Within : ℤ → ℤ → Type 0
Within B x = (neg_ℤ B ≤ℤ x) × (x ≤ℤ B)

-- at a natural bound it is a bound on the size
pub within_size : (x : ℤ) (n : ℕ) → Within (pos n) x → nat_abs x ≤ n
within_size x n = (nat_abs-≤ x n).1

pub size_within : (x : ℤ) (n : ℕ) → nat_abs x ≤ n → Within (pos n) x
size_within x n = (nat_abs-≤ x n).0

-- a positive factor of both cancels
pub cancel_within : (q B x : ℤ) → pos 0 <ℤ q → Within (q *ℤ B) (q *ℤ x) → Within B x
cancel_within q B x h w = (cancel_≤ q (neg_ℤ B) x h (subst (λ t. t ≤ℤ (q *ℤ x)) (sign q B) w.0), cancel_≤ q x B h w.1)
  where
    sign : (q B : ℤ) → neg_ℤ (q *ℤ B) ≡ q *ℤ neg_ℤ B
    sign = all2 _ (simp bridge (omega arith))

pub widen : (A B x : ℤ) → Within A x → A ≤ℤ B → Within B x
widen = all3 _ (simp bridge (omega arith))

-- bounds add up
pub Σ_within : (B f : ℕ → ℤ) (n : ℕ) → ((k : ℕ) → k < n → Within (B k) (f k)) → Within (Σ B n) (Σ f n)
unfolding Σ
Σ_within B f zero h = none (pos 0) (le_z_yes tt)
  where
    none : (x : ℤ) → pos 0 ≤ℤ x → Within x (pos 0)
    none = all1 _ (simp bridge (omega arith))
Σ_within B f (suc n) h = add (Σ B n) (B n) (Σ f n) (f n) (Σ_within B f n (λ k l. h k (omega arith))) (h n (omega arith))
  where
    add : (A B x y : ℤ) → Within A x → Within B y → Within (A +ℤ B) (x +ℤ y)
    add = all4 _ (simp bridge (omega arith))

-- what rounding adds: 2·|t·[p/t] - p| ≤ t
pub round_within : (p : ℤ) (t : ℕ) → 0 < t → Within (pos t) (pos 2 *ℤ (pos t *ℤ round p t -ℤ p))
round_within p t h = twice (pos t *ℤ round p t -ℤ p) t (round_error p t h)
  where
    twice : (e : ℤ) (t : ℕ) → 2 * nat_abs e ≤ t → Within (pos t) (pos 2 *ℤ e)
    twice = all1 _ (simp bridge (omega arith))
