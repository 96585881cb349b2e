-- How far samples reach after each pass, under both borders, from samples within ±M; those of an accepted picture, within ±32,767, are within a line's ±294,912
-- after passes 1 and 2, and within the ±1,048,576 of readings after pass 3. Assumes nothing.
use Prim.Native.Nat.{ℕ, ◌+◌, ◌*◌, ◌/◌, ◌%◌, ◌≤◌, ◌<◌}
use mathlib.Core.List.{List}
use native.Mathlib.Nat.{le_trans}
use native.Mathlib.Omega.{arith}
use lib.IntN.{ℤ, pos, nat_abs}
use Rattle.arith.proofs.Laws.{pos-≤ℤ}
use Rattle.arith.proofs.Within.{Within, within_size, size_within, widen}
use Rattle.lists.specs.Line.{line}
use Rattle.settings.specs.declared.Border.{Border}
use Rattle.kernels.specs.declared.Kernel.{Kernel}
use Rattle.kernels.specs.declared.Kernel.TheVariants.{Linear, Keys, Spline}
use Rattle.moves.specs.Border.{grey}
use Rattle.moves.proofs.Reach.{reach}
use Rattle.moves.proofs.Border.{bordered_reach, reach_more}
use Rattle.lists.specs.Picture.{Picture, picture, Places}
use Rattle.passes.specs.Picture.{turned, rows_moved, after_one, after_two, straightened, straighten}
use Rattle.lists.proofs.Picture.{inside, at_index}
use Rattle.passes.proofs.Places.{straighten_at}

pub record Ranged (W H M : ℕ) (X : Picture) : Type 0 where
  pub place : Places W H (λ y x. Within (pos M) (X y x))

pub turn_ranged : {W H M : ℕ} {X : Picture} → Ranged W H M X → Ranged H W M (turned X)
turn_ranged r = record { place = λ x y hx hy. r.place y x hy hx }

-- ---- one pass over rows, of samples in a line's range
pub row_small : {W H M : ℕ} {X : Picture} → M ≤ 294912 → Ranged W H M X → (y : ℕ) → y < H → (k : ℕ) → k < W → Within (pos 294912) (X y k)
row_small {M = M} {X} fits range y hy k l = widen (pos M) (pos 294912) (X y k) (range.place y k hy l) (pos-≤ℤ fits)

-- and so is the background
pub grey_small : {M : ℕ} (β : Border) → M ≤ 294912 → Within (pos M) (grey β) → Within (pos 294912) (grey β)
grey_small {M} β fits outer = widen (pos M) (pos 294912) (grey β) outer (pos-≤ℤ fits)

rows_reach : (β : Border) (κ : Kernel) {W H : ℕ} (move : ℕ → ℤ) {X : Picture} (M : ℕ) → 0 < W → M ≤ 294912 → Within (pos M) (grey β) → Ranged W H M X
    → Ranged W H (reach κ M) (rows_moved β κ W move X)
unfolding rows_moved
rows_reach β κ move M h fits outer range = record { place = λ y x hy hx. bordered_reach β M h fits outer (λ k l. range.place y k hy l) κ (move y) x }

-- ---- three passes
-- samples within ±32767 stay within ±294912 for two passes, and within ±1048576 for three
pub reach_fits : (κ : Kernel) (M : ℕ) → M ≤ 32767 → (reach κ M ≤ 294912) × (reach κ (reach κ M) ≤ 294912) × (reach κ (reach κ (reach κ M)) ≤ 1048576)
reach_fits Linear M h = omega arith
reach_fits Keys M h = omega arith
reach_fits Spline M h = omega arith

-- and so does the background
module _ (β : Border) (κ : Kernel) (M : ℕ) (outer : Within (pos M) (grey β)) where
  pub outer₁ : Within (pos (reach κ M)) (grey β)
  outer₁ = widen (pos M) (pos (reach κ M)) (grey β) outer (pos-≤ℤ (reach_more κ M))

  pub outer₂ : Within (pos (reach κ (reach κ M))) (grey β)
  outer₂ = widen (pos (reach κ M)) (pos (reach κ (reach κ M))) (grey β) outer₁ (pos-≤ℤ (reach_more κ (reach κ M)))

module _ (β : Border) (κ : Kernel) {W H : ℕ} (rows columns : ℕ → ℤ) (hW : 0 < W) (hH : 0 < H) (M : ℕ) (small : M ≤ 32767) (outer : Within (pos M) (grey β))
    {X : Picture} (range : Places W H (λ y x. Within (pos M) (X y x))) where
  pub range₁ : Ranged W H (reach κ M) (after_one β κ W rows X)
  range₁ = rows_reach β κ rows {X = X} M hW (omega arith) outer (record { place = range })

  pub range₂ : Ranged W H (reach κ (reach κ M)) (after_two β κ W H rows columns X)
  range₂ = turn_ranged (rows_reach β κ columns (reach κ M) hH (reach_fits κ M small).0 (outer₁ β κ M outer) (turn_ranged range₁))

  pub range₃ : Ranged W H (reach κ (reach κ (reach κ M))) (straightened β κ W H rows columns X)
  range₃ = rows_reach β κ rows (reach κ (reach κ M)) hW (reach_fits κ M small).1 (outer₂ β κ M outer) range₂

-- the inputs of passes 2 and 3 are within a line's range
module _ (β : Border) (κ : Kernel) {W H : ℕ} (rows columns : ℕ → ℤ) (hW : 0 < W) (hH : 0 < H) (outer : Within (pos 32767) (grey β))
    {X : Picture} (range : Places W H (λ y x. Within (pos 32767) (X y x))) where
  pub after_one_range : Places W H (λ y x. Within (pos 294912) (after_one β κ W rows X y x))
  after_one_range y x hy hx = row_small (reach_fits κ 32767 (omega arith)).0 (range₁ β κ rows columns hW hH 32767 (omega arith) outer range) y hy x hx

  pub after_two_range : Places W H (λ y x. Within (pos 294912) (after_two β κ W H rows columns X y x))
  after_two_range y x hy hx = row_small (reach_fits κ 32767 (omega arith)).1 (range₂ β κ rows columns hW hH 32767 (omega arith) outer range) y hy x hx

-- ---- three passes over a list of samples
pub sample_range : {W H M : ℕ} (s : List ℤ) → ((i : ℕ) → i < W * H → nat_abs (line s i) ≤ M) → Places W H (λ y x. Within (pos M) (picture W s y x))
unfolding picture
sample_range {W} {H} {M} s each y x hy hx = size_within (line s (y * W + x)) M (each (y * W + x) (inside W H y x hy hx))

module _ (β : Border) (κ : Kernel) {W H : ℕ} (rows columns : ℕ → ℤ) (s : List ℤ) (hW : 0 < W) (hH : 0 < H) where
  -- a background and samples within ±M are within three reaches of it
  pub straighten_reach : (M : ℕ) → M ≤ 32767 → nat_abs (grey β) ≤ M → ((i : ℕ) → i < W * H → nat_abs (line s i) ≤ M) → (i : ℕ) → i < W * H
      → nat_abs (line (straighten β κ W H rows columns s) i) ≤ reach κ (reach κ (reach κ M))
  straighten_reach M small plain each i l =
      rw (straighten_at β κ W H rows columns s i l)
      (within_size (straightened β κ W H rows columns (picture W s) (i / W) (i % W)) (reach κ (reach κ (reach κ M)))
      (at_index (λ y x. Within (pos (reach κ (reach κ (reach κ M)))) (straightened β κ W H rows columns (picture W s) y x)) hW
      (range₃ β κ rows columns hW hH M small (size_within (grey β) M plain) (sample_range s each)).place i l))

  -- so the result is within the range for readings
  pub straighten_size : nat_abs (grey β) ≤ 32767 → ((i : ℕ) → i < W * H → nat_abs (line s i) ≤ 32767) → (i : ℕ) → i < W * H
      → nat_abs (line (straighten β κ W H rows columns s) i) ≤ 1048576
  straighten_size plain each i l = le_trans (straighten_reach 32767 (omega arith) plain each i l) (reach_fits κ 32767 (omega arith)).2
