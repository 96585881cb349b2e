-- Nothing is found yet, and every sample before the place that is reached is within the limit. Assumes nothing.
use Prim.Native.Nat.{◌+◌, ◌*◌}
use mathlib.Core.Path.{◌≡◌}
use Rattle.std.specs.Prelude.{None}
use lib.IntN.{nat_abs}
use Rattle.refusals.specs.Tests.{AllWithin}
use Rattle.refusals.proofs.scan.Given as goal

abbrev pub invariant-rows : goal.invariant-rows
invariant-rows l = (l.found ≡ None) × AllWithin (nat_abs l.limit) (l.row * l.width) l.picture

abbrev pub invariant-loop-column : goal.invariant-loop-column
invariant-loop-column l = (l.found ≡ None) × AllWithin (nat_abs l.limit) (l.row * l.width + l.column) l.picture
