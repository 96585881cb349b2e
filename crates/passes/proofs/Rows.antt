-- In each pass a line depends on that line and its setting only. Assumes nothing.
use mathlib.Core.Path.{◌≡◌, ap}
use Prim.Native.Nat.{ℕ, ◌<◌}
use lib.IntN.{ℤ}
use Rattle.settings.specs.declared.Border.{Border}
use Rattle.kernels.specs.declared.Kernel.{Kernel}
use Rattle.moves.proofs.Border.{bordered_local}
use Rattle.lists.specs.Picture.{Picture}
use Rattle.passes.specs.Picture.{rows_moved}

-- two pictures of one size and one setting, alike in row y, agree in row y after pass 1
pub moved_row_alone : (β : Border) (κ : Kernel) (W : ℕ) (rows : ℕ → ℤ) (p p' : Picture) (y : ℕ)
    → 0 < W
    → ((x : ℕ) → x < W → p y x ≡ p' y x)
    → (x : ℕ) → rows_moved β κ W rows p y x ≡ rows_moved β κ W rows p' y x
unfolding rows_moved
moved_row_alone β κ W rows p p' y h alike x = ap (λ r. r x) (bordered_local β h alike κ (rows y))
