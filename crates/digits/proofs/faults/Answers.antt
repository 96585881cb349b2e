-- `digits::faults` meets its contract: its numbers are taken from the code, and the test of the 256 bytes is computed with them.
use Rattle.lists.specs.Tab.{tab}
use Rattle.words.proofs.Lanes.{lanes}
use Rattle.words.proofs.Formula.{made_word, made_byte, made_and, made_or, made_xor, made_sum}
use Rattle.digits.specs.Digit.{is_digit}
use Rattle.digits.proofs.Passes.{formula_passes}
use Rattle.digits.proofs.faults.Goals as goal

pub returns : goal.returns
unfolding lanes is_digit tab
returns c =
    formula_passes c.args.w _
    (made_and
    (made_or
    (made_xor
    (made_xor
    (made_xor
    (made_xor
    (made_sum (made_and made_word (made_byte _ tt)) (made_byte _ tt))
    (made_sum (made_and made_word (made_byte _ tt)) (made_byte _ tt)))
    (made_sum (made_and made_word (made_byte _ tt)) (made_byte _ tt)))
    (made_sum (made_and made_word (made_byte _ tt)) (made_byte _ tt)))
    (made_byte _ tt))
    made_word)
    (made_byte _ tt))
    tt
    c.ranges.w.fits
