-- `turns::copy_reversed` fills the result from the other end of the samples. The loop: the first k places are filled. Assumes nothing.
use mathlib.Core.Path.{sym, ◌∙◌}
use native.Mathlib.Omega.{arith}
use lib.IntN.{pos}
use lib.Seq.{ext_get_or}
use Rattle.std.specs.Prelude.{reverse}
use Rattle.std.proofs.lemmas.List.{length-reverse, get_or-reverse}
use Rattle.turns.proofs.copy_reversed.Goals as goal

pub returns : goal.returns
returns c =
    let s = c.args.samples.now in
    ext_get_or (pos 0) c.loop-k.res (reverse s) (omega (arith, length-reverse s))
    (λ k l. c.loop-k.invariant k (omega arith) ∙ sym (get_or-reverse s k (pos 0) (omega arith)))
