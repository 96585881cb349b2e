-- `store_places` lays the rows of work place by place, which is laying them line after line. Assumes nothing.
use Prim.Native.Nat.{ℕ, ◌+◌, ◌%◌, ◌<◌}
use mathlib.Core.Path.{◌≡◌}
use lib.ListN.{get_or}
use Rattle.lists.specs.Line.{rolled}
use Rattle.lists.specs.Grid.{row_of}
use Rattle.grid.specs.Four.{laid}
use Rattle.grid.proofs.store_places.Given as goal

abbrev pub invariant-loop-k : goal.invariant-loop-k
invariant-loop-k l = record {
  places : (i : ℕ) → i < 4 → (get_or l.j i 0 ≡ (l.k + get_or l.initial.j i 0) % l.m) × (get_or l.j i 0 < l.m);
  laid : l.picture ≡ laid l.at l.s.across l.s.along 4 (λ (k i : ℕ). rolled (get_or l.initial.j i 0) (row_of l.m l.work i) k) l.k l.initial.picture;
}
