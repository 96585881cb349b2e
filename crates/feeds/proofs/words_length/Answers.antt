-- `feeds::words_length` meets its contract.
use Prim.Native.Nat.{◌+◌}
use mathlib.Core.Path.{ap, ◌∙◌}
use native.Mathlib.Omega.{arith}
use Rattle.feeds.specs.Feed.{line_length}
use Rattle.feeds.proofs.Length.{word_more, word_found, search_end}
use Rattle.feeds.proofs.words_length.Goals as goal

pub returns-then-n-lt8 : goal.returns-then-n-lt8
returns-then-n-lt8 c =
    word_found c.args.s.now c.loop-i.i c.word_length-n.result (c.word_length-n.ensures ∙ ap line_length c.word_at.ensures) (omega arith) c.loop-i.invariant.2

pub loop-i-preserved : goal.loop-i-preserved
loop-i-preserved c = (
  omega arith,
  omega arith,
  word_more c.args.s.now c.loop-i.i c.word_length-n.result (c.word_length-n.ensures ∙ ap line_length c.word_at.ensures) (omega arith) c.loop-i.invariant.2,
)

pub returns : goal.returns
returns c = search_end c.args.s.now c.loop-i.i (omega arith) (omega arith) c.loop-i.invariant.2

pub returns-else-n-lt8 : goal.returns-else-n-lt8
returns-else-n-lt8 c =
    let m = word_more c.args.s.now c.loop-i.i c.word_length-n.result (c.word_length-n.ensures ∙ ap line_length c.word_at.ensures) (omega arith) c.loop-i.invariant.2 in
    search_end c.args.s.now (c.loop-i.i + 8) (omega arith) (omega arith) m
