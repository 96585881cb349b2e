-- The three-pass call of document 01, 'Three passes' and 'Refusals'. Laws stand in proofs/.
--     Answer   the whole answer: outcome, result, work, demand 3 and linear's range
--     Raised   two calls, one with a number added to the samples and the background of the other
pub mod Answer
pub mod Raised
