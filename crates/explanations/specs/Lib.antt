-- What made one sample of a moved line (Q-11). Laws stand in proofs/.
--     Made       the parts of a sample, in the document's words
--     Answer     what the call answers, accepted or refused, and what it leaves in its work
--     TwoCalls   what an explanation and a move of the same line promise together
pub mod Made
pub mod Answer
pub mod TwoCalls
