-- `joined_windows` joins the windows of four lines. Assumes nothing.
use Prim.Native.Nat.{ℕ, ◌<◌}
use native.Mathlib.Omega.{arith}
use borrow.Author.Count.{below_more}
use lib.ListN.{get_or}
use Rattle.moves.specs.Row.{Covers, joined_of}
use Rattle.moves.proofs.Kept.{covers_first, covers_second}
use Rattle.shears.proofs.joined_windows.Goals as goal

pub loop-i-preserved : goal.loop-i-preserved
loop-i-preserved c =
    let a = c.args in
    let l = c.loop-i in
    let w = c.window_of.ensures in
    rw c.joined-part.ensures
    (below_more (λ (j : ℕ). Covers a.border a.n (get_or a.starts j 0) (joined_of l.part c.window_of.result)) l.i (λ (j : ℕ) (h : j < l.i). covers_first (l.invariant j h) w)
    (covers_second (l.invariant 0 (omega arith)) w))
