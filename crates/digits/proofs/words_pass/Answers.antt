-- `digits::words_pass` meets its contract.
use Prim.Native.Nat.{◌*◌}
use mathlib.Core.Path.{ap, ◌∙◌}
use native.Mathlib.Omega.{arith}
use Rattle.digits.specs.Digit.{all_digits, passes}
use Rattle.digits.proofs.Test.{all_more, all_end}
use Rattle.digits.proofs.words_pass.Goals as goal

pub loop-k-preserved : goal.loop-k-preserved
unfolding passes
loop-k-preserved c =
    all_more c.args.s.now c.loop-k.k c.loop-k.mark c.faults-mark.result c.loop-k.invariant (c.faults-mark.ensures ∙ ap all_digits c.word_at.ensures)

pub returns : goal.returns
returns c = all_end c.args.s.now (8 * c.loop-k.k) c.loop-k.mark (omega arith) c.loop-k.invariant
