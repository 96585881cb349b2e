-- `feeds::words_length` meets its contract.
use Prim.Native.Nat.{◌+◌, ◌%◌, ◌≤◌}
use mathlib.Core.Path.{◌≡◌}
use lib.ListN.{length, drop}
use Rattle.feeds.specs.Feed.{line_length}
use Rattle.feeds.proofs.words_length.Given as goal

abbrev pub invariant-loop-i : goal.invariant-loop-i
invariant-loop-i l = (l.i ≤ length l.s) × (l.i % 8 ≡ 0) × (line_length l.s ≡ l.i + line_length (drop l.i l.s))
