-- Laws of the call that moves one line.
--     Examples   work places, verdicts at the ends of each range and in the order of the numbers, and the figures of outcomes, worked out by the checker
--     Answer     the work that number 2 asks for, what the call has passed when it accepts, its buffers, its answer
--     Raised     two calls, one with a number added to the samples and the background of the other
pub mod Examples
pub mod Answer
pub mod Raised
