-- `joined_windows` joins the windows of four lines. Assumes nothing.
use Prim.Native.Nat.{ℕ, ◌<◌}
use lib.ListN.{get_or}
use Rattle.moves.specs.Row.{Covers}
use Rattle.shears.proofs.joined_windows.Given as goal

abbrev pub invariant-loop-i : goal.invariant-loop-i
invariant-loop-i l = (j : ℕ) → j < l.i → Covers l.border l.n (get_or l.starts j 0) l.part
