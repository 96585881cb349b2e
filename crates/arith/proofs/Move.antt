-- f and q of a move d. Assumes nothing.
use mathlib.Core.Path.{◌≡◌}
use Prim.Native.Nat.{ℕ, ◌<◌}
use native.Mathlib.Omega.{arith}
use lib.IntN.{ℤ, pos, neg_ℤ, ◌+ℤ◌, ◌*ℤ◌}
use lib.Signed.{◌≤ℤ◌, ◌<ℤ◌}
use Rattle.arith.specs.Move.{D, fraction, whole}
use Rattle.arith.proofs.Bridge.{bridge, all2}
use Rattle.arith.proofs.Laws.{pos-≤ℤ}
use Rattle.arith.proofs.Round.{remainder_is, division_only}

-- -d = 4,096·q + f, and f < 4,096
pub move_parts : (d : ℤ) → (neg_ℤ d ≡ pos D *ℤ whole d +ℤ pos (fraction d)) × (fraction d < D)
unfolding whole fraction
move_parts d = remainder_is (neg_ℤ d) D (omega arith)

-- no other f and q do
pub move_only : (d q : ℤ) (f : ℕ) → f < D → neg_ℤ d ≡ pos D *ℤ q +ℤ pos f → (whole d ≡ q) × (fraction d ≡ f)
unfolding whole fraction
move_only d q f h e = division_only (neg_ℤ d) q D f h e

-- f is 0 where d is a multiple of 4,096
pub multiple_whole : (d m : ℤ) → d ≡ pos D *ℤ m → fraction d ≡ 0
multiple_whole d m e = (move_only d (neg_ℤ m) 0 (omega arith) (turn d m e)).1
  where
    turn : (d m : ℤ) → d ≡ pos D *ℤ m → neg_ℤ d ≡ pos D *ℤ neg_ℤ m +ℤ pos 0
    turn = all2 _ (simp bridge (omega arith))

pub fraction_low : (d : ℤ) → pos 0 ≤ℤ pos (fraction d)
fraction_low d = pos-≤ℤ {m = 0} (omega arith)

pub fraction_high : (d : ℤ) → pos (fraction d) ≤ℤ pos 4096
fraction_high d = pos-≤ℤ (omega (arith, (move_parts d).1))

pub fraction_below : (d : ℤ) → pos (fraction d) <ℤ pos 4096
fraction_below d = below (fraction d) (move_parts d).1
  where
    below : (f : ℕ) → f < 4096 → pos f <ℤ pos 4096
    below = simp bridge (omega arith)
