-- The definition of a moved line follows document 01's rules, in its words. Assumes nothing.
use mathlib.Core.Path.{◌≡◌, ap}
use Prim.Native.Nat.{ℕ, ◌+◌, ◌*◌, ◌/◌, ◌%◌, ◌<◌}
use native.Mathlib.Nat.{div-add-mod, mod-lt}
use native.Mathlib.Omega.{arith}
use lib.IntN.{ℤ, pos, ◌+ℤ◌, ◌-ℤ◌, ◌*ℤ◌}
use Rattle.arith.proofs.Bridge.{bridge, all2}
use Rattle.arith.specs.Whole.{floor, remainder, round}
use Rattle.arith.proofs.Round.{remainder_is, division_only}
use Rattle.lists.specs.Line.{Line, wrap}
use Rattle.spline.proofs.Rules.{wrap_local, coefficient_local}
use Rattle.kernels.specs.declared.Kernel.{Kernel}
use Rattle.kernels.specs.declared.Kernel.TheVariants.{Linear, Keys, Spline}
use Rattle.arith.specs.Move.{whole}
use Rattle.moves.specs.Move.{first, source, mixed, divisor, moved}

-- place i of the four that output k weighs is k + q - 1 + i modulo N
pub place_is : (N : ℕ) (d : ℤ) (k i : ℕ) → 0 < N → remainder (pos k +ℤ whole d -ℤ pos 1 +ℤ pos i) N ≡ (first N d + k + i) % N
unfolding first
place_is N d k i h =
    (division_only (pos k +ℤ whole d -ℤ pos 1 +ℤ pos i) (floor z N +ℤ pos (j / N)) N (j % N) (mod-lt j h) (sum (whole d) (floor z N) N k i (first N d)
    (j / N) (j % N) (remainder_is z N h).0 (div-add-mod j N))).1
  where
    z : ℤ
    z = whole d -ℤ pos 1

    j : ℕ
    j = first N d + k + i

    sum : (w q : ℤ) (N k i r m s : ℕ) → w -ℤ pos 1 ≡ pos N *ℤ q +ℤ pos r → N * m + s ≡ r + k + i
        → pos k +ℤ w -ℤ pos 1 +ℤ pos i ≡ pos N *ℤ (q +ℤ pos m) +ℤ pos s
    sum = all2 _ (simp bridge (omega arith))

-- a line's own places alone decide the moved line
module _ {N : ℕ} {x y : Line} (h : 0 < N) (same : (k : ℕ) → k < N → x k ≡ y k) where
  pub moved_local : (κ : Kernel) (d : ℤ) → moved κ N d x ≡ moved κ N d y
  unfolding moved source
  moved_local Linear d = ap (λ w k. round (mixed Linear N d w k) (divisor Linear)) (wrap_local h same)
  moved_local Keys d = ap (λ w k. round (mixed Keys N d w k) (divisor Keys)) (wrap_local h same)
  moved_local Spline d = ap (λ c k. round (mixed Spline N d (wrap N c) k) (divisor Spline)) (coefficient_local h same)
