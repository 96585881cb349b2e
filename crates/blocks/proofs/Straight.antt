-- A block straightened, slice by slice: what stands at each place, and that each slice is the single picture's three passes of that slice. Assumes nothing.
use Prim.Native.Nat.{ℕ, ◌*◌, ◌<◌}
use mathlib.Core.Path.{◌≡◌, sym, ap, ◌∙◌}
use mathlib.Core.List.{List, ◌++◌}
use native.Mathlib.Omega.{arith}
use lib.IntN.{ℤ, pos}
use lib.ListN.{length, take, get_or-append}
use lib.Seq.{get_or-take}
use Rattle.lists.specs.Tab.{tab}
use Rattle.lists.specs.Line.{line}
use Rattle.lists.proofs.Tab.{tab-length, tab_at, tab_only}
use Rattle.settings.specs.declared.Setting.{Setting}
use Rattle.lists.specs.Picture.{picture, Places}
use Rattle.passes.specs.Picture.{straighten}
use Rattle.lists.proofs.Picture.{pictured_same}
use Rattle.planes.specs.declared.Slices.{Slices}
use Rattle.planes.specs.Slices.{place_in, slice, slice_of, Everywhere}
use Rattle.planes.specs.Sweep.{Straightened}
use Rattle.planes.proofs.Places.{straightened_local, slice-picture}
use Rattle.pictures.specs.Answer.{kernel_in, row_moves, column_moves, third_rows}
use Rattle.blocks.specs.Block.{slices_of, slice_at, row_at, column_at, straight_slice, straighten_block}
use Rattle.blocks.proofs.Planes.{stands, slices_whole, known_at}

-- ---- slices of a list
module _ (s : Slices) (set : Setting) (hc : 0 < s.columns) (hr : 0 < s.rows) where
  -- a slice that was copied out has the same rows of pass 3
  pub third_slice : (list : List ℤ) (i : ℕ)
      → Places s.columns s.rows (λ y x. third_rows s.columns s.rows set (slice_of s list i) y x ≡ straight_slice s set list i y x)
  third_slice list i =
      straightened_local set.border (kernel_in set) s.columns s.rows (row_moves set) (column_moves set) hc hr
      (picture s.columns (slice_of s list i)) (slice s list i) (slice-picture s list i)

  -- a slice that holds them is the three passes of the slice
  pub straight_slice_lem : (list left : List ℤ) (i : ℕ) → Places s.columns s.rows (λ y x. slice s left i y x ≡ straight_slice s set list i y x)
      → slice_of s left i ≡ straighten set.border (kernel_in set) s.columns s.rows (row_moves set) (column_moves set) (slice_of s list i)
  straight_slice_lem list left i held =
      unfold straighten in unfold slice_of in
      pictured_same (slice s left i) (third_rows s.columns s.rows set (slice_of s list i)) hc (λ y x hy hx. held y x hy hx ∙ sym (third_slice list i y x hy hx))

-- ---- the block
module _ (W H D plane : ℕ) (set : Setting) (block : List ℤ) where
  abbrev s : Slices
  s = slices_of W H D plane

  abbrev size : ℕ
  size = W * H * D

  -- what stands at place p of the straightened block
  abbrev pub straight : ℕ → ℤ
  straight p = straight_slice s set block (slice_at W H plane p) (row_at W H plane p) (column_at W H plane p)

  pub block_length : length (straighten_block W H D plane set block) ≡ size
  unfolding straighten_block
  block_length = tab-length straight size

  -- whatever stands after it
  block_at : (rest : List ℤ) (p : ℕ) → p < size → line (straighten_block W H D plane set block ++ rest) p ≡ straight p
  unfolding straighten_block
  block_at rest p l = get_or-append (straighten_block W H D plane set block) rest (pos 0) p (omega (arith, block_length)) ∙ tab_at straight size p (pos 0) l

  module _ (hW : 0 < W) (hH : 0 < H) where
    -- by slice, row and column
    pub block_slice : (rest : List ℤ) → Everywhere s (λ i y x. slice s (straighten_block W H D plane set block ++ rest) i y x ≡ straight_slice s set block i y x)
    block_slice rest i y x hi hy hx =
        let k = known_at W H D hW hH plane i y x hi hy hx in
        block_at rest (place_in s i y x) ((slices_whole W H D hW hH plane).lie.inside i y x hi hy hx) ∙ rw (k.0, k.1, k.2)

    -- the slices of a copy of the block, straightened where they lie, make it up
    pub straightened_block : 0 < s.columns → 0 < s.rows → (left : List ℤ) → length left ≡ size → Straightened s set (take size block) left
        → left ≡ straighten_block W H D plane set block
    unfolding straighten_block
    straightened_block hc hr left long done = tab_only straight left (pos 0) each ∙ ap (λ (n : ℕ). tab straight n) long
      where
        each : (p : ℕ) → p < length left → line left p ≡ straight p
        each p l =
            let i = slice_at W H plane p in
            let c = stands W H D hW hH plane p (omega (arith, long)) in
            ap (line left) c.3
            ∙ done.slices i (row_at W H plane p) (column_at W H plane p) c.0 c.1 c.2
            ∙ straightened_local set.border (kernel_in set) s.columns s.rows (row_moves set) (column_moves set) hc hr (slice s (take size block) i) (slice s block i)
            (λ y x hy hx. get_or-take size block (place_in s i y x) (pos 0) ((slices_whole W H D hW hH plane).lie.inside i y x c.0 hy hx))
            (row_at W H plane p) (column_at W H plane p) c.1 c.2
