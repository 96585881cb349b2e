-- `count` adds up the lines one by one. Assumes nothing.
use Prim.Native.Nat.{◌≤◌}
use mathlib.Core.Path.{◌≡◌}
use Rattle.passes.specs.Count.{interpolated}
use Rattle.offsets.specs.Moves.{move_of}
use Rattle.offsets.proofs.Moves.count.Given as goal

abbrev pub invariant-loop-y : goal.invariant-loop-y
invariant-loop-y l = (l.count ≤ l.y) × (l.count ≡ interpolated l.border l.n (move_of l.self) l.y)
