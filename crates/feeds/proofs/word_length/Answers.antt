-- `feeds::word_length` meets its contract: its numbers are taken from the code, and the test of the 256 bytes is computed with them.
use Rattle.lists.specs.Tab.{tab}
use Rattle.words.proofs.Lanes.{lanes}
use Rattle.words.proofs.Formula.{made_word, made_byte, made_and, made_or, made_xor, made_sum}
use Rattle.feeds.specs.Feed.{in_line}
use Rattle.feeds.proofs.Feed.{formula_length}
use Rattle.feeds.proofs.word_length.Goals as goal

pub returns : goal.returns
unfolding lanes in_line tab
returns c =
    formula_length c.args.w _
    (made_xor
    (made_and
    (made_or
    (made_sum (made_and (made_xor made_word (made_byte _ tt)) (made_byte _ tt)) (made_byte _ tt))
    (made_xor made_word (made_byte _ tt)))
    (made_byte _ tt))
    (made_byte _ tt))
    tt
    c.ranges.w.fits
