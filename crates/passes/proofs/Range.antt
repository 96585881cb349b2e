-- Q-12 of a pass and of three, under both borders: linear keeps the range of the picture's samples and the background (`straighten_in_range`), and
-- under linear and Keys a number added to both is added to every sample (`straighten-raised`) and counts no other lines (`count-raised`).
-- Assumes nothing.
use mathlib.Core.Path.{◌≡◌, refl, sym, ap, ap₂, ◌∙◌, subst}
use mathlib.Core.List.{List}
use Prim.Native.Nat.{ℕ, zero, suc, ◌+◌, ◌*◌, ◌≤◌, ◌<◌, min}
use native.Mathlib.Nat.{mul-pos}
use lib.IntN.{ℤ, ◌+ℤ◌}
use Rattle.settings.specs.declared.Border.{Border}
use Rattle.kernels.specs.declared.Kernel.{Kernel}
use Rattle.kernels.specs.declared.Kernel.TheVariants.{Linear, Spline}
use Rattle.moves.specs.Range.{lowest, highest, Between, InRange, raised, Raised}
use Rattle.moves.proofs.Range.{OnBackground, background_between, samples_between, bordered-between, bordered-raised, fraction-raised}
use Rattle.lists.specs.Picture.{Picture, picture, Places}
use Rattle.passes.specs.Picture.{turned, rows_moved, after_one, after_two, straightened, straighten}
use Rattle.passes.specs.Count.{interpolated, count}
use Rattle.lists.proofs.Picture.{inside, at_index}
use Rattle.passes.proofs.Places.{straighten_at}

-- ---- the range
rows-between : (β : Border) {W H : ℕ} (move : ℕ → ℤ) {X : Picture} (low high : ℤ) → 0 < W → OnBackground (Between low high) β
    → Places W H (λ y x. Between low high (X y x)) → Places W H (λ y x. Between low high (rows_moved β Linear W move X y x))
unfolding rows_moved
rows-between β move low high h outer each y x hy hx = bordered-between β low high h outer (λ k l. each y k hy l) (move y) x

module _ (β : Border) {W H : ℕ} (rows columns : ℕ → ℤ) (hW : 0 < W) (hH : 0 < H) where
  straightened-between : {X : Picture} (low high : ℤ) → OnBackground (Between low high) β → Places W H (λ y x. Between low high (X y x))
      → Places W H (λ y x. Between low high (straightened β Linear W H rows columns X y x))
  straightened-between low high outer each =
      rows-between β rows low high hW outer
      (λ y x hy hx. rows-between β columns low high hH outer (λ x y hx hy. rows-between β rows low high hW outer each y x hy hx) x y hx hy)

  pub straighten_in_range : (s : List ℤ) → InRange β (W * H) s (straighten β Linear W H rows columns s)
  unfolding picture
  straighten_in_range s i l =
      subst (Between low high) (sym (straighten_at β Linear W H rows columns s i l))
      (at_index (λ y x. Between low high (straightened β Linear W H rows columns (picture W s) y x)) hW
      (straightened-between low high (background_between (W * H) s some β) (λ y x hy hx. samples_between (W * H) s some β (y * W + x) (inside W H y x hy hx))) i l)
    where
      some : 1 ≤ W * H
      some = mul-pos hW hH

      low : ℤ
      low = lowest β (W * H) s

      high : ℤ
      high = highest β (W * H) s

-- ---- a number added
rows-raised : (β : Border) (κ : Kernel) → (κ ≡ Spline → ⊥) → {W H : ℕ} (move : ℕ → ℤ) (X Y : Picture) (c : ℤ) → 0 < W
    → Places W H (λ y x. Y y x ≡ X y x +ℤ c) → Places W H (λ y x. rows_moved (raised c β) κ W move Y y x ≡ rows_moved β κ W move X y x +ℤ c)
unfolding rows_moved
rows-raised β κ not-spline {W} move X Y c h each y x hy hx = bordered-raised β W (X y) (Y y) c h (λ k l. each y k hy l) κ not-spline (move y) x

module _ (β : Border) (κ : Kernel) (not-spline : κ ≡ Spline → ⊥) {W H : ℕ} (rows columns : ℕ → ℤ) (hW : 0 < W) (hH : 0 < H) (c : ℤ) where
  straightened-raised : (X Y : Picture) → Places W H (λ y x. Y y x ≡ X y x +ℤ c)
      → Places W H (λ y x. straightened (raised c β) κ W H rows columns Y y x ≡ straightened β κ W H rows columns X y x +ℤ c)
  straightened-raised X Y each =
      rows-raised β κ not-spline rows (after_two β κ W H rows columns X) (after_two (raised c β) κ W H rows columns Y) c hW
      (λ y x hy hx. rows-raised β κ not-spline columns (turned (after_one β κ W rows X)) (turned (after_one (raised c β) κ W rows Y)) c hH
      (λ x y hx hy. rows-raised β κ not-spline rows X Y c hW each y x hy hx) x y hx hy)

  pub straighten-raised : (s t : List ℤ) → Raised c (W * H) s t
      → Raised c (W * H) (straighten β κ W H rows columns s) (straighten (raised c β) κ W H rows columns t)
  unfolding picture
  straighten-raised s t each i l =
      straighten_at (raised c β) κ W H rows columns t i l
      ∙ at_index (λ y x. straightened (raised c β) κ W H rows columns (picture W t) y x ≡ straightened β κ W H rows columns (picture W s) y x +ℤ c) hW
      (straightened-raised (picture W s) (picture W t) (λ y x hy hx. each (y * W + x) (inside W H y x hy hx))) i l
      ∙ ap (λ v. v +ℤ c) (sym (straighten_at β κ W H rows columns s i l))

-- ---- the count is by how far lines move, and by no sample
interpolated-raised : (c : ℤ) (β : Border) (N : ℕ) (move : ℕ → ℤ) (n : ℕ) → interpolated (raised c β) N move n ≡ interpolated β N move n
unfolding interpolated
interpolated-raised c β N move zero = refl
interpolated-raised c β N move (suc n) = ap₂ ◌+◌ (interpolated-raised c β N move n) (ap (min 1) (fraction-raised c β N (move n)))

pub count-raised : (c : ℤ) (β : Border) (W H : ℕ) (rows columns : ℕ → ℤ) → count (raised c β) W H rows columns ≡ count β W H rows columns
unfolding count
count-raised c β W H rows columns =
    ap₂ ◌+◌ (ap₂ ◌+◌ (interpolated-raised c β W rows H) (interpolated-raised c β H columns W)) (interpolated-raised c β W rows H)
