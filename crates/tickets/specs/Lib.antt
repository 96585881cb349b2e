-- Ask, then commit (Q-7). Laws stand in proofs/.
--     Ticket     what asking answers, which commits are straightened, and what a commit answers and leaves
--     TwoCalls   what an asking and a commit on its ticket promise together, and a commit on any ticket
pub mod Ticket
pub mod TwoCalls
