-- `rise` is a step on 16 times the sample. Assumes nothing.
use native.Mathlib.Omega.{arith}
use Rattle.std.proofs.lemmas.Int.{ints, to_z-of_z}
use Rattle.prefilter.proofs.rise.Goals as goal

pub returns : goal.returns
returns c = grind (arith, ints, to_z-of_z)
