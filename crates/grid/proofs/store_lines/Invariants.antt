-- `store_lines` lays the rows of work line after line. Assumes nothing.
use Prim.Native.Nat.{ℕ}
use mathlib.Core.Path.{◌≡◌}
use lib.ListN.{get_or}
use Rattle.lists.specs.Grid.{row_of}
use Rattle.lists.specs.Line.{rolled}
use Rattle.grid.specs.Four.{laid}
use Rattle.grid.proofs.store_lines.Given as goal

abbrev pub invariant-loop-i : goal.invariant-loop-i
invariant-loop-i l = l.picture ≡ laid l.at 1 l.s.across l.s.n (λ (i : ℕ). rolled (get_or l.starts i 0) (row_of l.m l.work i)) l.i l.initial.picture
