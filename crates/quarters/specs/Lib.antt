-- Quarter turns and mirrors (Q-10): the calls. The moves themselves are defined in `arrangements`. Laws stand in proofs/.
--     Answer     what the calls answer, and what a move leaves in the lent buffer
--     TwoCalls   what two moves in a row promise together, and a move with the one that undoes it
pub mod Answer
pub mod TwoCalls
