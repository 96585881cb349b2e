-- `lists::copy` fills the result from the samples. The loop: the first k places are filled. Assumes nothing.
use native.Mathlib.Omega.{arith}
use lib.IntN.{pos}
use lib.Seq.{ext_get_or}
use Rattle.lists.proofs.copy.Goals as goal

pub returns : goal.returns
returns c = ext_get_or (pos 0) c.loop-k.res c.args.samples.now (omega arith) (λ m l. c.loop-k.invariant m (omega arith))
