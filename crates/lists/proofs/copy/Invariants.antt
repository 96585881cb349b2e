-- `lists::copy` fills the result from the samples. The loop: the first k places are filled. Assumes nothing.
use Rattle.std.proofs.Common.{◌≡◌, ℕ, ◌<◌, pos, get_or}
use Rattle.lists.proofs.copy.Given as goal

abbrev pub invariant-loop-k : goal.invariant-loop-k
invariant-loop-k l = (m : ℕ) → m < l.k → get_or l.res m (pos 0) ≡ get_or l.samples m (pos 0)
