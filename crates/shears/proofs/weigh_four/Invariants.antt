-- `weigh_four` weighs row after row of work, each at the f of its line. Assumes nothing.
use Prim.Native.Nat.{ℕ, ◌+◌}
use mathlib.Core.Path.{◌≡◌}
use Rattle.grid.proofs.Rows.{treated}
use Rattle.shears.specs.Pass.{weighed_at}
use Rattle.shears.proofs.weigh_four.Given as goal

abbrev pub invariant-loop-i : goal.invariant-loop-i
invariant-loop-i l = l.work ≡ treated l.m (λ (i : ℕ). weighed_at l.shear l.n (l.y + i) l.part) l.initial.work l.i
