-- The slices of each plane are the whole block: every place is a place of exactly one, in the slice, the row and the column that `slice_at`, `row_at` and
-- `column_at` say. Assumes nothing.
use Prim.Native.Nat.{ℕ, zero, suc, ◌+◌, ◌*◌, ◌/◌, ◌%◌, ◌<◌}
use mathlib.Core.Path.{◌≡◌, sym, ap, ◌∙◌, subst}
use native.Mathlib.Nat.{div-add-mod', div-div-eq-div-mul, div-lt_iff_lt-mul, mod-lt, mul_comm, mul-pos}
use native.Mathlib.Omega.{arith}
use Rattle.lists.proofs.Grid.{one_place}
use Rattle.lists.proofs.Picture.{inside}
use Rattle.planes.specs.Slices.{place_in, Apart, Whole}
use Rattle.planes.proofs.Places.{transposed_apart, exchanged_apart}
use Rattle.blocks.specs.Block.{place, slices_of, slice_at, row_at, column_at}

-- ---- depth, row and column say the place, and the place says them
module _ (W H D : ℕ) where
  abbrev size : ℕ
  size = W * H * D

  pub place_inside : (z y x : ℕ) → z < D → y < H → x < W → place W H z y x < size
  place_inside z y x hz hy hx = inside (W * H) D z (y * W + x) hz (inside W H y x hy hx)

  pub place_apart : (z z' y y' x x' : ℕ) → y < H → y' < H → x < W → x' < W → place W H z y x ≡ place W H z' y' x' → (z ≡ z') × (y ≡ y') × (x ≡ x')
  place_apart z z' y y' x x' hy hy' hx hx' e =
      let a = one_place (W * H) z z' (y * W + x) (y' * W + x') (inside W H y x hy hx) (inside W H y' x' hy' hx') e in
      let b = one_place W y y' x x' hx hx' a.1 in
      (a.0, b.0, b.1)

  -- row y at depth z is row z·H + y of all pictures, one below the other
  pub place_below : (z y x : ℕ) → (z * H + y) * W + x ≡ place W H z y x
  place_below z y x = omega arith

  pub place_known : (p : ℕ) → p ≡ place W H (p / (W * H)) (p / W % H) (p % W)
  place_known p =
      sym (ap (λ (z : ℕ). place W H z (p / W % H) (p % W)) (sym (div-div-eq-div-mul p W H))
      ∙ sym (place_below (p / W / H) (p / W % H) (p % W))
      ∙ ap (λ (q : ℕ). q * W + p % W) (div-add-mod' (p / W) H)
      ∙ div-add-mod' p W)

  -- ---- so do a slice and its row and column, in each plane
  in_plane_0 : (i y x : ℕ) → place W H i y x ≡ place_in (slices_of W H D 0) i y x
  in_plane_0 i y x = omega arith

  in_plane_1 : (i y x : ℕ) → place W H y i x ≡ place_in (slices_of W H D 1) i y x
  in_plane_1 i y x = omega arith

  in_plane_2 : (i y x : ℕ) → place W H y x i ≡ place_in (slices_of W H D 2) i y x
  in_plane_2 i y x = omega arith

  -- the pictures lie apart; planes 1 and 2 have their rows and their columns for slices
  pictures_apart : Apart (slices_of W H D 0) size
  pictures_apart = record {
    inside = λ i y x hi hy hx. subst (λ (p : ℕ). p < size) (in_plane_0 i y x) (place_inside i y x hi hy hx);
    apart = λ i j y y' x x' hi hj hy hy' hx hx' e. place_apart i j y y' x x' hy hy' hx hx' (in_plane_0 i y x ∙ e ∙ sym (in_plane_0 j y' x'));
  }

  slices_apart : (plane : ℕ) → Apart (slices_of W H D plane) size
  slices_apart zero = pictures_apart
  slices_apart (suc zero) = exchanged_apart pictures_apart
  slices_apart (suc (suc plane)) = exchanged_apart (transposed_apart pictures_apart)

  module _ (hW : 0 < W) (hH : 0 < H) where
    -- a place stands in its slice, its row and its column
    abbrev Stands : ℕ → ℕ → Type 0
    Stands plane p =
        (slice_at W H plane p < (slices_of W H D plane).slices) × (row_at W H plane p < (slices_of W H D plane).rows) × (column_at W H plane p < (slices_of W H D plane).columns)
        × (p ≡ place_in (slices_of W H D plane) (slice_at W H plane p) (row_at W H plane p) (column_at W H plane p))

    depth_in : (p : ℕ) → p < size → p / (W * H) < D
    depth_in p l = (div-lt_iff_lt-mul (mul-pos hW hH)).1 (subst (λ (n : ℕ). p < n) (mul_comm (W * H) D) l)

    row_in : (p : ℕ) → p / W % H < H
    row_in p = mod-lt (p / W) hH

    column_in : (p : ℕ) → p % W < W
    column_in p = mod-lt p hW

    pub stands : (plane p : ℕ) → p < size → Stands plane p
    stands zero p l = (depth_in p l, row_in p, column_in p, place_known p ∙ in_plane_0 (p / (W * H)) (p / W % H) (p % W))
    stands (suc zero) p l = (row_in p, depth_in p l, column_in p, place_known p ∙ in_plane_1 (p / W % H) (p / (W * H)) (p % W))
    stands (suc (suc plane)) p l = (column_in p, depth_in p l, row_in p, place_known p ∙ in_plane_2 (p % W) (p / (W * H)) (p / W % H))

    pub slices_whole : (plane : ℕ) → Whole (slices_of W H D plane) size
    slices_whole plane =
        record {
          lie = slices_apart plane;
          cover = λ p l.
              let c = stands plane p l in
              record {
                slice = slice_at W H plane p;
                row = row_at W H plane p;
                column = column_at W H plane p;
                slice_in = c.0;
                row_in = c.1;
                column_in = c.2;
                is = c.3;
              };
        }

    -- and the place of a slice, a row and a column has just these
    pub known_at : (plane i y x : ℕ) → i < (slices_of W H D plane).slices → y < (slices_of W H D plane).rows → x < (slices_of W H D plane).columns
        → let p = place_in (slices_of W H D plane) i y x in (slice_at W H plane p ≡ i) × (row_at W H plane p ≡ y) × (column_at W H plane p ≡ x)
    known_at plane i y x hi hy hx =
        let p = place_in (slices_of W H D plane) i y x in
        let g = slices_apart plane in
        let c = stands plane p (g.inside i y x hi hy hx) in
        g.apart (slice_at W H plane p) i (row_at W H plane p) y (column_at W H plane p) x c.0 hi c.1 hy c.2 hx (sym c.3)
