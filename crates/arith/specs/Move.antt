-- The parts of a move by d/4,096 samples: -d = 4,096·q + f with f from 0 to 4,095. Assumes nothing.
use Rattle.std.specs.Prelude.{ℕ, ℤ, neg_ℤ}
use Rattle.arith.specs.Whole.{floor, remainder}

-- the parts of a sample, document 01's D
abbrev pub D : ℕ
D = 4096

-- f, the fraction of a sample
unfoldable pub fraction : ℤ → ℕ
fraction d = remainder (neg_ℤ d) D

-- q, the whole samples
unfoldable pub whole : ℤ → ℤ
whole d = floor (neg_ℤ d) D
