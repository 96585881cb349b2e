-- How far a moved line's samples reach, from samples within ±M: linear M, Keys (5·M + 2)/4, spline 3·M. Assumes nothing.
use mathlib.Core.Path.{subst}
use mathlib.Core.List.{List}
use Prim.Native.Nat.{ℕ, ◌+◌, ◌*◌, ◌/◌, ◌-◌, ◌≤◌, ◌<◌}
use native.Mathlib.Nat.{le_trans}
use native.Mathlib.Omega.{arith}
use lib.IntN.{ℤ, pos, nat_abs, ◌+ℤ◌, ◌-ℤ◌, ◌*ℤ◌}
use lib.ListN.{length, get_or}
use Rattle.arith.proofs.Bridge.{bridge, all1}
use Rattle.arith.proofs.Ring.{reify, vars3, vars5}
use Rattle.arith.proofs.Cert.{linear, rounding, ◌⊕◌, ◌·◌}
use Rattle.arith.proofs.Laws.{pos-≤ℤ}
use Rattle.arith.specs.Whole.{round}
use Rattle.lists.specs.Line.{Line, wrap, line}
use Rattle.lists.proofs.Tab.{tab_at}
use Rattle.lists.proofs.Cyclic.{wrap_every}
use Rattle.arith.proofs.Within.{Within, within_size, size_within, round_within, cancel_within}
use Rattle.spline.specs.Coefficients.{coefficient}
use Rattle.kernels.specs.declared.Kernel.{Kernel}
use Rattle.kernels.specs.declared.Kernel.TheVariants.{Linear, Keys, Spline}
use Rattle.kernels.specs.Kernel.{norm, D³}
use Rattle.kernels.proofs.Weights.{gain, most, norm_nonzero, norm_positive, weigh_within}
use Rattle.arith.specs.Move.{fraction}
use Rattle.moves.specs.Move.{first, mixed, source, moved, move}
use Rattle.spline.proofs.Sizes.{coefficient_reach}
use Rattle.moves.proofs.Mixed.{mixed_times}
use Rattle.arith.proofs.Move.{fraction_low, fraction_high}

abbrev pub reach : Kernel → ℕ → ℕ
reach Linear M = M
reach Keys M = (5 * M + 2) / 4
reach Spline M = 3 * M

-- places within ±M
mixed_within : (κ : Kernel) (N : ℕ) (d : ℤ) (x : Line) (M : ℤ) (k : ℕ) → ((i : ℕ) → Within M (x i))
    → Within (most κ *ℤ M) (pos 4 *ℤ mixed κ N d x k)
unfolding mixed
mixed_within κ N d x M k each = weigh_within κ (pos (fraction d)) (fraction_low d) (fraction_high d) (λ i. x (first N d + k + i)) M (λ i. each (first N d + k + i))

rounded : (W o n g M : ℤ) → Within (g *ℤ n *ℤ M) (pos 4 *ℤ W) → Within n (pos 2 *ℤ (n *ℤ o -ℤ W))
    → Within (n *ℤ (g *ℤ M +ℤ pos 2)) (n *ℤ (pos 4 *ℤ o))
rounded = vars5 _ (simp reify (λ ρ W o. (
  linear (W.0 ⊕ 2 · o.0) tt,
  linear (W.1 ⊕ 2 · o.1) tt,
)))

direct : (κ : Kernel) (N : ℕ) (d : ℤ) (x : Line) (M : ℤ) (k : ℕ) → ((i : ℕ) → Within M (x i))
    → Within (pos (gain κ) *ℤ M +ℤ pos 2) (pos 4 *ℤ round (mixed κ N d x k) (norm κ * D³))
direct κ N d x M k each =
    cancel_within (pos n) (pos (gain κ) *ℤ M +ℤ pos 2) (pos 4 *ℤ round W n) (norm_positive κ) (rounded W (round W n) (pos n) (pos (gain κ)) M
    (mixed_within κ N d x M k each) (round_within W n (norm_nonzero κ)))
  where
    n : ℕ
    n = norm κ * D³

    W : ℤ
    W = mixed κ N d x k

module _ {N : ℕ} {x : Line} (M : ℕ) (h : 0 < N) (small : M ≤ 294912) (each : (k : ℕ) → k < N → Within (pos M) (x k)) where
  pub moved_reach : (κ : Kernel) (d : ℤ) (k : ℕ) → Within (pos (reach κ M)) (moved κ N d x k)
  unfolding moved source
  moved_reach Linear d k = whole (moved Linear N d x k) M (direct Linear N d (wrap N x) (pos M) k (wrap_every (Within (pos M)) h each))
    where
      whole : (o : ℤ) (M : ℕ) → Within (pos 4 *ℤ pos M +ℤ pos 2) (pos 4 *ℤ o) → Within (pos M) o
      whole = all1 _ (simp bridge (omega arith))
  moved_reach Keys d k = whole (moved Keys N d x k) M (direct Keys N d (wrap N x) (pos M) k (wrap_every (Within (pos M)) h each))
    where
      whole : (o : ℤ) (M : ℕ) → Within (pos 5 *ℤ pos M +ℤ pos 2) (pos 4 *ℤ o) → Within (pos ((5 * M + 2) / 4)) o
      whole = all1 _ (simp bridge (omega arith))
  moved_reach Spline d k = whole (moved Spline N d x k) M (sixteenth W (moved Spline N d x k) (pos M) sums (round_within W (16 * (6 * D³)) (omega arith)))
    where
      c : Line
      c = wrap N (coefficient N x)

      W : ℤ
      W = mixed Spline N d c k

      places : (i : ℕ) → Within (pos 528 *ℤ pos M +ℤ pos 37) (pos 11 *ℤ c i)
      places = wrap_every (λ t. Within (pos 528 *ℤ pos M +ℤ pos 37) (pos 11 *ℤ t)) h (coefficient_reach (pos M) h (pos-≤ℤ small) each)

      sums : Within (most Spline *ℤ (pos 528 *ℤ pos M +ℤ pos 37)) (pos 4 *ℤ (pos 11 *ℤ W))
      sums =
          subst (λ t. Within (most Spline *ℤ (pos 528 *ℤ pos M +ℤ pos 37)) (pos 4 *ℤ t)) (mixed_times Spline N d (pos 11) c k)
          (mixed_within Spline N d (λ i. pos 11 *ℤ c i) (pos 528 *ℤ pos M +ℤ pos 37) k places)

      -- 352·6·D³·|out| ≤ 6·D³·(1056·M + 250)
      sixteenth : (W o M : ℤ) → Within (most Spline *ℤ (pos 528 *ℤ M +ℤ pos 37)) (pos 4 *ℤ (pos 11 *ℤ W))
          → Within (pos (16 * (6 * D³))) (pos 2 *ℤ (pos (16 * (6 * D³)) *ℤ o -ℤ W)) → Within (pos 1056 *ℤ M +ℤ pos 250) (pos 352 *ℤ o)
      sixteenth = vars3 _ (simp reify (λ ρ W o. (
        rounding (12 * D³ - 1) (W.0 ⊕ 22 · o.0) tt,
        rounding (12 * D³ - 1) (W.1 ⊕ 22 · o.1) tt,
      )))

      whole : (o : ℤ) (M : ℕ) → Within (pos 1056 *ℤ pos M +ℤ pos 250) (pos 352 *ℤ o) → Within (pos (3 * M)) o
      whole = all1 _ (simp bridge (omega arith))

-- ---- the same of lists
-- no kernel reaches further than 3·M
reach_three : (κ : Kernel) (M : ℕ) → reach κ M ≤ 3 * M
reach_three Linear M = omega arith
reach_three Keys M = omega arith
reach_three Spline M = omega arith

module _ (s : List ℤ) (M : ℕ) (some : 0 < length s) (small : M ≤ 294912) (each : (k : ℕ) → k < length s → nat_abs (get_or s k (pos 0)) ≤ M) where
  pub move_reach : (κ : Kernel) (d : ℤ) (k : ℕ) → k < length s → nat_abs (get_or (move κ d s) k (pos 0)) ≤ reach κ M
  unfolding move
  move_reach κ d k l =
      rw (tab_at (moved κ (length s) d (line s)) (length s) k (pos 0) l)
      (within_size (moved κ (length s) d (line s) k) (reach κ M)
      (moved_reach M some small (λ i m. size_within (line s i) M (each i m)) κ d k))

  pub move_size : (κ : Kernel) (d : ℤ) (k : ℕ) → k < length s → nat_abs (get_or (move κ d s) k (pos 0)) ≤ 3 * M
  move_size κ d k l = le_trans (move_reach κ d k l) (reach_three κ M)
