-- Rows under a background. Their outputs come from a model of documents 01 and 02 outside the checker. Assumes nothing.
use Rattle.std.specs.Prelude.{List, [], ◌∷◌, pos, negsuc}
use Rattle.settings.specs.declared.Border.TheVariants.{Background}
use Rattle.kernels.specs.declared.Kernel.TheVariants.{Linear, Keys, Spline}
use Rattle.samples.specs.Starred.{Row, bordered_line, bordered_picture}

abbrev pub edges : List Row
edges =
    -- background comes in from the side that the line leaves
    bordered_line (Background (pos 100)) Linear (pos 2048) (pos 0 ∷ pos 10 ∷ []) (pos 50 ∷ pos 5 ∷ [])
    ∷ bordered_line (Background (pos 100)) Keys (negsuc 2047) (pos 0 ∷ pos 0 ∷ pos 16 ∷ pos 0 ∷ []) (negsuc 6 ∷ pos 9 ∷ pos 3 ∷ pos 49 ∷ [])
    ∷ bordered_line (Background (pos 50)) Spline (pos 2048) (pos 0 ∷ pos 6 ∷ []) (pos 25 ∷ negsuc 5 ∷ [])
    ∷ bordered_line (Background (pos 0)) Spline (negsuc 2999) (pos 300 ∷ negsuc 199 ∷ pos 100 ∷ []) (negsuc 97 ∷ pos 6 ∷ pos 50 ∷ [])
    -- whole samples, under each kernel
    ∷ bordered_line (Background (pos 9)) Linear (pos 4096) (pos 1 ∷ pos 2 ∷ pos 3 ∷ pos 4 ∷ []) (pos 9 ∷ pos 1 ∷ pos 2 ∷ pos 3 ∷ [])
    ∷ bordered_line (Background (pos 9)) Keys (pos 4096) (pos 1 ∷ pos 2 ∷ pos 3 ∷ pos 4 ∷ []) (pos 9 ∷ pos 1 ∷ pos 2 ∷ pos 3 ∷ [])
    ∷ bordered_line (Background (pos 9)) Spline (negsuc 12287) (pos 1 ∷ pos 2 ∷ pos 3 ∷ pos 4 ∷ []) (pos 4 ∷ pos 9 ∷ pos 9 ∷ pos 9 ∷ [])
    -- N samples either way, and a 4,096th less
    ∷ bordered_line (Background (pos 7)) Linear (pos 8192) (pos 1 ∷ pos 2 ∷ []) (pos 7 ∷ pos 7 ∷ [])
    ∷ bordered_line (Background (pos 7)) Keys (negsuc 8191) (pos 1 ∷ pos 2 ∷ []) (pos 7 ∷ pos 7 ∷ [])
    ∷ bordered_line (Background (pos 9000)) Keys (pos 8191) (pos 0 ∷ negsuc 8999 ∷ []) (pos 9000 ∷ pos 8999 ∷ [])
    -- pictures: the edges, whole moves, lines that become all background and are not counted
    ∷ bordered_picture (Background (pos 5)) Linear 2 2 0 0 (pos 2048) (pos 0) (pos 0 ∷ pos 10 ∷ pos 0 ∷ pos 10 ∷ []) (pos 0 ∷ pos 10 ∷ pos 4 ∷ pos 4 ∷ []) 2
    ∷ bordered_picture (Background (pos 50)) Keys 3 3 1 1 (negsuc 4095) (pos 4096) (pos 1 ∷ pos 2 ∷ pos 3 ∷ pos 4 ∷ pos 5 ∷ pos 6 ∷ pos 7 ∷ pos 8 ∷ pos 9 ∷ []) (pos 50 ∷ pos 4 ∷ pos 1 ∷ pos 8 ∷ pos 5 ∷ pos 2 ∷ pos 9 ∷ pos 6 ∷ pos 50 ∷ []) 0
    ∷ bordered_picture (Background (pos 0)) Linear 1 3 0 0 (pos 4096) (pos 0) (pos 1 ∷ pos 2 ∷ pos 3 ∷ []) (pos 1 ∷ pos 0 ∷ pos 0 ∷ []) 0
    ∷ bordered_picture (Background (pos 0)) Linear 1 3 0 0 (pos 4000) (pos 0) (pos 1000 ∷ pos 2000 ∷ pos 3000 ∷ []) (pos 1000 ∷ pos 1 ∷ pos 0 ∷ []) 2
    ∷ []
