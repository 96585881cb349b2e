-- A picture that is moved and then straightened, for angles past 45 degrees (Q-10). Laws stand in proofs/.
--     TwoCalls   the two calls, and what they promise together
pub mod TwoCalls
