-- Further rows, where a reader would doubt. Their outputs come from a model of document 01 outside the checker. Assumes nothing.
use Rattle.std.specs.Prelude.{List, [], ◌∷◌, ℤ, pos, negsuc}
use Rattle.kernels.specs.declared.Kernel.{Kernel}
use Rattle.kernels.specs.declared.Kernel.TheVariants.{Linear, Keys, Spline}
use Rattle.samples.specs.Starred.{Row, line}

abbrev pub further : List Row
further =
    -- a negative half goes upward
    line Linear (pos 2048) (pos 0 ∷ negsuc 2 ∷ []) (negsuc 0 ∷ negsuc 0 ∷ [])
    ∷ line Linear (negsuc 2047) (negsuc 0 ∷ pos 0 ∷ []) (pos 0 ∷ pos 0 ∷ [])
    -- one sample stays what it is
    ∷ line Keys (pos 2048) (negsuc 4 ∷ []) (negsuc 4 ∷ [])
    ∷ line Spline (pos 1234) (negsuc 294911 ∷ []) (negsuc 294911 ∷ [])
    -- both ends of the range of d
    ∷ line Linear (negsuc 4194303) (pos 5 ∷ pos 6 ∷ pos 7 ∷ []) (pos 6 ∷ pos 7 ∷ pos 5 ∷ [])
    ∷ line Keys (pos 4194304) (pos 5 ∷ pos 6 ∷ pos 7 ∷ []) (pos 7 ∷ pos 5 ∷ pos 6 ∷ [])
    ∷ line Spline (pos 4194303) (pos 5 ∷ negsuc 599 ∷ pos 7 ∷ []) (pos 7 ∷ pos 5 ∷ negsuc 599 ∷ [])
    ∷ line Spline (negsuc 4194302) (pos 100 ∷ negsuc 49 ∷ []) (pos 100 ∷ negsuc 49 ∷ [])
    -- two samples at both ends of their range
    ∷ line Keys (negsuc 0) (pos 294912 ∷ negsuc 294911 ∷ []) (pos 294912 ∷ negsuc 294911 ∷ [])
    -- three samples, each weighed as neighbour and as opposite
    ∷ line Keys (pos 2048) (pos 0 ∷ pos 1 ∷ pos 0 ∷ []) (pos 0 ∷ pos 1 ∷ pos 1 ∷ [])
    ∷ line Spline (pos 2048) (pos 0 ∷ pos 0 ∷ pos 100 ∷ []) (pos 62 ∷ negsuc 24 ∷ pos 62 ∷ [])
    -- lines shorter than the run-in
    ∷ line Spline (pos 1000) (pos 1000 ∷ pos 0 ∷ pos 0 ∷ pos 0 ∷ pos 0 ∷ []) (pos 887 ∷ pos 264 ∷ negsuc 74 ∷ pos 50 ∷ negsuc 125 ∷ [])
    ∷ line Spline (negsuc 2999) (pos 300 ∷ negsuc 199 ∷ pos 100 ∷ pos 0 ∷ pos 50 ∷ negsuc 24 ∷ pos 12 ∷ []) (negsuc 99 ∷ pos 8 ∷ pos 43 ∷ pos 31 ∷ pos 7 ∷ negsuc 46 ∷ pos 295 ∷ [])
    -- a fraction of 1/4,096 and of 4,095/4,096
    ∷ line Linear (pos 4095) (pos 1 ∷ pos 0 ∷ pos 0 ∷ []) (pos 0 ∷ pos 1 ∷ pos 0 ∷ [])
    ∷ line Linear (pos 1) (pos 4096 ∷ pos 0 ∷ negsuc 4095 ∷ []) (pos 4094 ∷ pos 1 ∷ negsuc 4094 ∷ [])
    ∷ []
