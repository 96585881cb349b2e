-- The number of lines interpolated, those with f not 0, over the three passes. The centre's row and column are not. Assumes nothing.
use mathlib.Core.Path.{◌≡◌, refl, ap, ◌∙◌}
use mathlib.Core.Bool.{Bool, true, false, cond}
use Prim.Native.Nat.{ℕ, zero, suc, ◌+◌, ◌*◌, ◌-◌, ◌≤◌, ◌<◌, min}
use native.Mathlib.Decide.{dec_le}
use native.Mathlib.Omega.{arith}
use lib.IntN.{ℤ, pos, ◌-ℤ◌, ◌*ℤ◌}
use Rattle.arith.proofs.Bridge.{bridge, all2}
use Rattle.arith.specs.Whole.{floor, remainder}
use Rattle.arith.specs.Move.{fraction}
use Rattle.settings.specs.declared.Border.{Border}
use Rattle.moves.specs.Border.{gone, fraction_in}
use Rattle.passes.specs.Count.{interpolated, count}
use Rattle.passes.specs.Picture.{shear}

interpolated-all : (β : Border) (N : ℕ) (move : ℕ → ℤ) (n : ℕ) → interpolated β N move n ≤ n
unfolding interpolated
interpolated-all β N move zero = omega arith
interpolated-all β N move (suc n) = omega (arith, interpolated-all β N move n)

-- one of which, c, moves by whole places
interpolated_but : (β : Border) (N : ℕ) (move : ℕ → ℤ) (c n : ℕ) → fraction_in β N (move c) ≡ 0 → c < n → interpolated β N move n < n
unfolding interpolated
interpolated_but β N move c zero e l = omega arith
interpolated_but β N move c (suc n) e l = go (dec_le n c) (interpolated_but β N move c n e)
  where
    go : Dec (n ≤ c) → (c < n → interpolated β N move n < n) → interpolated β N move n + min 1 (fraction_in β N (move n)) < suc n
    go (yes q) earlier = omega (arith, interpolated-all β N move n, ap (λ i. fraction_in β N (move i)) (same q) ∙ e)
      where
        same : n ≤ c → n ≡ c
        same q = omega arith
    go (no q) earlier = omega (arith, earlier (omega arith))

whole_in : (β : Border) (N : ℕ) (d : ℤ) → fraction d ≡ 0 → fraction_in β N d ≡ 0
unfolding fraction_in
whole_in β N d e = by (gone β N d)
  where
    by : (p : Bool) → cond p 0 (fraction d) ≡ 0
    by true = refl
    by false = e

centre_whole : (A : ℤ) (c : ℕ) → fraction (shear A c c) ≡ 0
unfolding fraction remainder floor
centre_whole A c = ap fraction (none A (pos c))
  where
    none : (A x : ℤ) → A *ℤ (x -ℤ x) ≡ pos 0
    none = all2 _ (simp bridge (omega arith))

pub count_bound : (β : Border) (W H cx cy : ℕ) (A B : ℤ) → cx < W → cy < H → count β W H (shear A cy) (shear B cx) ≤ 2 * (H - 1) + (W - 1)
unfolding count
count_bound β W H cx cy A B hx hy =
    omega (
      arith,
      interpolated_but β W (shear A cy) cy H (whole_in β W (shear A cy cy) (centre_whole A cy)) hy,
      interpolated_but β H (shear B cx) cx W (whole_in β H (shear B cx cx) (centre_whole B cx)) hx,
    )
