-- `copy_four` puts four places, one a turn. Assumes nothing.
use Prim.Native.Nat.{ℕ, ◌+◌, ◌*◌}
use mathlib.Core.Path.{◌≡◌}
use lib.ListN.{get_or}
use lib.IntN.{pos}
use Rattle.lists.specs.Grid.{put}
use Rattle.grid.proofs.copy_four.Given as goal

abbrev pub invariant-loop-i : goal.invariant-loop-i
invariant-loop-i l = l.to ≡ put l.q l.stride (λ (i : ℕ). get_or l.from (l.p + i * l.step + get_or l.j i 0) (pos 0)) l.i l.initial.to
