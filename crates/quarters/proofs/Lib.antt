-- Laws of the calls that move a picture.
--     Accepted   what an accepted call has passed, and back
--     Calls      what makes up a move's answer, and what an accepted move leaves
--     TwoCalls   two moves in a row, and a move with the one that undoes it
--     Examples   the order of judging, and the answers of small calls, computed
pub mod Accepted
pub mod Calls
pub mod TwoCalls
pub mod Examples
