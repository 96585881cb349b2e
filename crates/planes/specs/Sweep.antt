-- The rows of every slice moved, and every slice straightened: what is asked, and what is left. Assumes nothing.
use Rattle.std.specs.Prelude.{ℕ, ◌*◌, ◌≤◌, max, ◌≡◌, Bool, true, false, List, ℤ, nat_abs}
use Rattle.lists.specs.Line.{line}
use Rattle.settings.specs.declared.Border.{Border}
use Rattle.settings.specs.declared.Setting.{Setting}
use Rattle.kernels.specs.declared.Kernel.{Kernel}
use Rattle.kernels.specs.Kernel.{kernel_of}
use Rattle.moves.specs.Border.{grey}
use Rattle.moves.specs.Row.{places}
use Rattle.lists.specs.Picture.{Picture}
use Rattle.passes.specs.Picture.{shear, rows_moved, straightened}
use Rattle.acceptance.specs.Judge.{FitSetting}
use Rattle.offsets.specs.declared.Moves.{Moves}
use Rattle.offsets.specs.declared.Moves.TheVariants.{Alike}
use Rattle.offsets.specs.Moves.{move_of, Slight}
use Rattle.shears.specs.declared.Shear.{Shear}
use Rattle.planes.specs.declared.Slices.{Slices}
use Rattle.planes.specs.Slices.{slice, Everywhere, Beside, Apart}

-- the samples of every slice are within ±M
abbrev pub SlicesWithin : Slices → ℕ → List ℤ → Type 0
SlicesWithin s M list = Everywhere s (λ i y x. nat_abs (slice s list i y x) ≤ M)

-- every slice is what f makes of it, slice i what f i does, and no other place is touched
pub record Treated (f : ℕ → Picture → Picture) (s : Slices) (list list' : List ℤ) : Type 0 where
  pub slices : Everywhere s (λ i y x. slice s list' i y x ≡ f i (slice s list i) y x)
  pub others : (p : ℕ) → Beside s p → line list' p ≡ line list p

-- how far the rows of slice i move: row y as `moves` has it; or all alike, as line i does there, where slices stand for rows
abbrev pub moves_at : Moves → Bool → ℕ → Moves
moves_at moves true i = Alike (move_of moves i)
moves_at moves false i = moves

abbrev pub move_at : Moves → Bool → ℕ → ℕ → ℤ
move_at moves alike i = move_of (moves_at moves alike i)

-- row y of slice i is moved by `move i y`
abbrev pub Swept : Border → Kernel → (ℕ → ℕ → ℤ) → Slices → List ℤ → List ℤ → Type 0
Swept β κ move s = Treated (λ i. rows_moved β κ s.columns (move i)) s

-- every slice is document 01's three passes of what it was
abbrev pub Straightened : Slices → Setting → List ℤ → List ℤ → Type 0
Straightened s set =
    Treated (λ i. straightened set.border (kernel_of set.kernel) s.columns s.rows (shear set.a set.cy) (shear set.b set.cx)) s

-- what moving the rows of slices in a list of `size` places asks: the sizes, the ranges of the background and of the moves, and work places for four
-- rows with what stands on either side of them
pub record Sweepable (h : Shear) (s : Slices) (size room : ℕ) : Type 0 where
  pub columns : (1 ≤ s.columns) × (s.columns ≤ 1024)
  pub rows : (1 ≤ s.rows) × (s.rows ≤ 1024)
  pub slices : (1 ≤ s.slices) × (s.slices ≤ 1024)
  pub lie : Apart s size
  pub slight : Slight h.moves
  pub plain : nat_abs (grey h.border) ≤ 294912
  pub roomy : 4 * places h.border s.columns ≤ room

-- what straightening slices in a list of `size` places, with `work` work places, asks
pub record Workable (s : Slices) (set : Setting) (size work : ℕ) : Type 0 where
  pub columns : (1 ≤ s.columns) × (s.columns ≤ 1024)
  pub rows : (1 ≤ s.rows) × (s.rows ≤ 1024)
  pub slices : (1 ≤ s.slices) × (s.slices ≤ 1024)
  pub lie : Apart s size
  pub work_places_lent : 12 * max s.columns s.rows ≤ work
  pub setting : FitSetting s.columns s.rows set
