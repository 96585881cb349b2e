-- Where none was beyond the limit, the samples so far are within it. Assumes nothing.
use mathlib.Core.Path.{◌≡◌}
use mathlib.Core.Bool.{false}
use lib.IntN.{nat_abs}
use Rattle.refusals.specs.Tests.{AllWithin}
use Rattle.refusals.proofs.seen_within.Given as goal

abbrev pub invariant-loop-v : goal.invariant-loop-v
invariant-loop-v l = l.far ≡ false → AllWithin (nat_abs l.limit) l.v-index l.row
