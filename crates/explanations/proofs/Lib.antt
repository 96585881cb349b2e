-- Laws of explanations.
--     Made       the divisors and the parts of three samples, worked out; they are those of the move, and they add up
--     Call       verdicts at the ends of each range and in the order of the numbers, worked out; that order written out; what an accepted call has passed,
--                and its answer in either case
--     TwoCalls   an explanation and a move of the same line agree
pub mod Made
pub mod Call
pub mod TwoCalls
