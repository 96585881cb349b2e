-- `gather` lays four lines into rows of work place by place, which is laying them line after line. Assumes nothing.
use Prim.Native.Nat.{ℕ}
use mathlib.Core.Path.{◌≡◌}
use Rattle.grid.specs.Four.{laid}
use Rattle.grid.proofs.Rows.{place}
use Rattle.grid.proofs.gather.Given as goal

abbrev pub invariant-loop-k : goal.invariant-loop-k
invariant-loop-k l = l.work ≡ laid l.first l.m 1 4 (λ (k i : ℕ). place l.at l.s.along l.s.across l.s.n l.picture i k) l.k l.initial.work
