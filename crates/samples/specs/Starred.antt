-- The starred rows of document 01 as one list of inputs and outputs. Assumes nothing.
use Rattle.std.specs.Prelude.{◌≡◌, List, [], ◌∷◌, ℕ, ℤ, pos, negsuc}
use Rattle.settings.specs.declared.Border.{Border}
use Rattle.settings.specs.declared.Border.TheVariants.{Wrapped}
use Rattle.kernels.specs.declared.Kernel.{Kernel}
use Rattle.kernels.specs.declared.Kernel.TheVariants.{Linear, Keys, Spline}
use Rattle.moves.specs.Move.{move}
use Rattle.moves.specs.Border.{move_in}
use Rattle.passes.specs.Picture.{shear, straighten}
use Rattle.passes.specs.Count.{count}

-- a line: kernel, d, input, output; a picture: kernel, W, H, cx, cy, A, B, input, output, count
pub data Row : Type 0 where
  line : Kernel → ℤ → List ℤ → List ℤ → Row
  picture : Kernel → ℕ → ℕ → ℕ → ℕ → ℤ → ℤ → List ℤ → List ℤ → ℕ → Row
  -- the same under a border
  bordered_line : Border → Kernel → ℤ → List ℤ → List ℤ → Row
  bordered_picture : Border → Kernel → ℕ → ℕ → ℕ → ℕ → ℤ → ℤ → List ℤ → List ℤ → ℕ → Row

-- the rules carry the row's input to its output
abbrev pub Carried : Row → Type 0
Carried (line κ d s t) = move κ d s ≡ t
Carried (picture κ W H cx cy A B s t n) =
    (straighten Wrapped κ W H (shear A cy) (shear B cx) s ≡ t) × (count Wrapped W H (shear A cy) (shear B cx) ≡ n)
Carried (bordered_line β κ d s t) = move_in β κ d s ≡ t
Carried (bordered_picture β κ W H cx cy A B s t n) =
    (straighten β κ W H (shear A cy) (shear B cx) s ≡ t) × (count β W H (shear A cy) (shear B cx) ≡ n)

abbrev pub starred : List Row
starred =
    line Linear (pos 2048) (pos 0 ∷ pos 10 ∷ []) (pos 5 ∷ pos 5 ∷ [])
    ∷ line Linear (pos 2048) (pos 0 ∷ pos 1 ∷ []) (pos 1 ∷ pos 1 ∷ [])
    ∷ line Linear (pos 2048) (pos 0 ∷ negsuc 0 ∷ []) (pos 0 ∷ pos 0 ∷ [])
    ∷ line Linear (pos 1024) (pos 0 ∷ pos 0 ∷ pos 16 ∷ pos 0 ∷ []) (pos 0 ∷ pos 0 ∷ pos 12 ∷ pos 4 ∷ [])
    ∷ line Linear (negsuc 0) (pos 0 ∷ pos 4096 ∷ pos 0 ∷ []) (pos 1 ∷ pos 4095 ∷ pos 0 ∷ [])
    ∷ line Linear (pos 1) (pos 0 ∷ pos 4096 ∷ pos 0 ∷ []) (pos 0 ∷ pos 4095 ∷ pos 1 ∷ [])
    ∷ line Keys (negsuc 2047) (pos 0 ∷ pos 0 ∷ pos 16 ∷ pos 0 ∷ []) (negsuc 0 ∷ pos 9 ∷ pos 9 ∷ negsuc 0 ∷ [])
    ∷ line Spline (pos 2048) (pos 0 ∷ pos 6 ∷ []) (pos 3 ∷ pos 3 ∷ [])
    ∷ line Linear (pos 4096) (pos 1 ∷ pos 2 ∷ pos 3 ∷ pos 4 ∷ []) (pos 4 ∷ pos 1 ∷ pos 2 ∷ pos 3 ∷ [])
    ∷ line Keys (pos 4096) (pos 1 ∷ pos 2 ∷ pos 3 ∷ pos 4 ∷ []) (pos 4 ∷ pos 1 ∷ pos 2 ∷ pos 3 ∷ [])
    ∷ line Spline (pos 4096) (pos 1 ∷ pos 2 ∷ pos 3 ∷ pos 4 ∷ []) (pos 4 ∷ pos 1 ∷ pos 2 ∷ pos 3 ∷ [])
    ∷ line Linear (pos 1) (pos 7 ∷ []) (pos 7 ∷ [])
    ∷ line Keys (pos 1) (pos 7 ∷ []) (pos 7 ∷ [])
    ∷ line Spline (pos 1) (pos 7 ∷ []) (pos 7 ∷ [])
    ∷ picture Keys 3 3 1 1 (negsuc 4095) (pos 4096)
    (pos 1 ∷ pos 2 ∷ pos 3 ∷ pos 4 ∷ pos 5 ∷ pos 6 ∷ pos 7 ∷ pos 8 ∷ pos 9 ∷ [])
    (pos 7 ∷ pos 4 ∷ pos 1 ∷ pos 8 ∷ pos 5 ∷ pos 2 ∷ pos 9 ∷ pos 6 ∷ pos 3 ∷ [])
    0
    ∷ picture Linear 2 2 0 0 (pos 2048) (pos 0) (pos 0 ∷ pos 10 ∷ pos 0 ∷ pos 10 ∷ []) (pos 0 ∷ pos 10 ∷ pos 5 ∷ pos 5 ∷ []) 2
    ∷ []
