-- `turns::copy_reversed` fills the result from the other end of the samples. The loop: the first k places are filled. Assumes nothing.
use Rattle.std.proofs.Common.{◌≡◌, ℕ, ◌-◌, ◌<◌, length, pos, get_or}
use Rattle.turns.proofs.copy_reversed.Given as goal

abbrev pub invariant-loop-k : goal.invariant-loop-k
invariant-loop-k l = (m : ℕ) → m < l.k → get_or l.res m (pos 0) ≡ get_or l.samples (length l.samples - 1 - m) (pos 0)
