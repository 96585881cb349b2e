-- The samples of a straightened list. Assumes nothing.
use mathlib.Core.Path.{◌≡◌}
use mathlib.Core.List.{List}
use Prim.Native.Nat.{ℕ, ◌*◌, ◌/◌, ◌%◌, ◌<◌}
use lib.IntN.{ℤ}
use Rattle.lists.specs.Line.{line}
use Rattle.lists.specs.Picture.{picture}
use Rattle.lists.proofs.Picture.{pictured_at}
use Rattle.settings.specs.declared.Border.{Border}
use Rattle.kernels.specs.declared.Kernel.{Kernel}
use Rattle.passes.specs.Picture.{straightened, straighten}

-- each sample of a straightened list is one of a row of pass 3
pub straighten_at : (β : Border) (κ : Kernel) (W H : ℕ) (rows columns : ℕ → ℤ) (s : List ℤ) (i : ℕ) → i < W * H
    → line (straighten β κ W H rows columns s) i ≡ straightened β κ W H rows columns (picture W s) (i / W) (i % W)
unfolding straighten
straighten_at β κ W H rows columns s i l = pictured_at W H (straightened β κ W H rows columns (picture W s)) i l
