-- Slices transposed and exchanged lie apart as they did; slices with the same samples are the same, and slices that were straightened are document 01's
-- three passes as lists. Assumes nothing.
use Prim.Native.Nat.{ℕ, ◌*◌, ◌<◌}
use mathlib.Core.Path.{◌≡◌, sym, ◌∙◌, subst}
use mathlib.Core.List.{List}
use native.Mathlib.Omega.{arith}
use lib.IntN.{ℤ}
use lib.ListN.{length}
use Rattle.settings.specs.declared.Border.{Border}
use Rattle.settings.specs.declared.Setting.{Setting}
use Rattle.kernels.specs.declared.Kernel.{Kernel}
use Rattle.kernels.specs.Kernel.{kernel_of}
use Rattle.lists.specs.Picture.{Picture, Places, picture}
use Rattle.passes.specs.Picture.{shear, rows_moved, after_one, after_two, turned, straightened, straighten}
use Rattle.lists.proofs.Picture.{length-pictured, picture-pictured, pictured_same}
use Rattle.passes.proofs.Rows.{moved_row_alone}
use Rattle.planes.specs.declared.Slices.{Slices}
use Rattle.planes.specs.Slices.{place_in, slice, slice_of, Apart, transposed, exchanged}
use Rattle.planes.specs.Sweep.{Straightened}

-- ---- where samples stand
pub transposed-place : (s : Slices) (i y x : ℕ) → place_in s i y x ≡ place_in (transposed s) i x y
transposed-place s i y x = omega arith

pub exchanged-place : (s : Slices) (i y x : ℕ) → place_in s i y x ≡ place_in (exchanged s) y i x
exchanged-place s i y x = omega arith

pub transposed_apart : {s : Slices} {size : ℕ} → Apart s size → Apart (transposed s) size
transposed_apart {s} {size} g =
    record {
      inside = λ i x y hi hx hy. subst (λ (p : ℕ). p < size) (transposed-place s i y x) (g.inside i y x hi hy hx);
      apart = λ i i' x x' y y' hi hi' hx hx' hy hy' e.
          let a = g.apart i i' y y' x x' hi hi' hy hy' hx hx' (transposed-place s i y x ∙ e ∙ sym (transposed-place s i' y' x')) in
          (a.0, a.2, a.1);
    }

pub exchanged_apart : {s : Slices} {size : ℕ} → Apart s size → Apart (exchanged s) size
exchanged_apart {s} {size} g =
    record {
      inside = λ y i x hy hi hx. subst (λ (p : ℕ). p < size) (exchanged-place s i y x) (g.inside i y x hi hy hx);
      apart = λ y y' i i' x x' hy hy' hi hi' hx hx' e.
          let a = g.apart i i' y y' x x' hi hi' hy hy' hx hx' (exchanged-place s i y x ∙ e ∙ sym (exchanged-place s i' y' x')) in
          (a.1, a.0, a.2);
    }

-- ---- what is made of a picture by its own samples alone
abbrev pub Local : ℕ → ℕ → (Picture → Picture) → Type 0
Local W H f = (p p' : Picture) → Places W H (λ y x. p y x ≡ p' y x) → Places W H (λ y x. f p y x ≡ f p' y x)

module _ (β : Border) (κ : Kernel) (W H : ℕ) where
  pub rows_local : (rows : ℕ → ℤ) → 0 < W → Local W H (rows_moved β κ W rows)
  rows_local rows wide p p' same y x hy hx = moved_row_alone β κ W rows p p' y wide (λ k l. same y k hy l) x

  pub columns_local : (columns : ℕ → ℤ) → 0 < H → Local W H (λ p. turned (rows_moved β κ H columns (turned p)))
  columns_local columns high p p' same y x hy hx = moved_row_alone β κ H columns (turned p) (turned p') x high (λ k l. same k x l hx) y

  pub straightened_local : (rows columns : ℕ → ℤ) → 0 < W → 0 < H → Local W H (straightened β κ W H rows columns)
  straightened_local rows columns wide high p p' same =
      rows_local rows wide (after_two β κ W H rows columns p) (after_two β κ W H rows columns p')
      (columns_local columns high (after_one β κ W rows p) (after_one β κ W rows p') (rows_local rows wide p p' same))

-- ---- the samples of a slice
pub slice-length : (s : Slices) (list : List ℤ) (i : ℕ) → length (slice_of s list i) ≡ s.columns * s.rows
unfolding slice_of
slice-length s list i = length-pictured s.columns s.rows (slice s list i)

pub slice_same : (s : Slices) (a b : List ℤ) (i : ℕ) → 0 < s.columns → Places s.columns s.rows (λ y x. slice s a i y x ≡ slice s b i y x)
    → slice_of s a i ≡ slice_of s b i
unfolding slice_of
slice_same s a b i wide same = pictured_same (slice s a i) (slice s b i) wide same

-- read as a picture again
pub slice-picture : (s : Slices) (list : List ℤ) (i : ℕ) → Places s.columns s.rows (λ y x. picture s.columns (slice_of s list i) y x ≡ slice s list i y x)
unfolding slice_of
slice-picture s list i = picture-pictured s.columns s.rows (slice s list i)

-- a straightened slice, as a list
pub slice-straightened : (s : Slices) (set : Setting) (list list' : List ℤ) → 0 < s.columns → 0 < s.rows → Straightened s set list list'
    → (i : ℕ) → i < s.slices
    → slice_of s list' i
    ≡ straighten set.border (kernel_of set.kernel) s.columns s.rows (shear set.a set.cy) (shear set.b set.cx) (slice_of s list i)
unfolding straighten
slice-straightened s set list list' wide high done i hi =
    unfold slice_of in
    pictured_same (slice s list' i) _ wide
    (λ y x hy hx. done.slices i y x hi hy hx ∙ sym (straightened_local set.border (kernel_of set.kernel) s.columns s.rows _ _ wide high _ (slice s list i) (slice-picture s list i) y x hy hx))
