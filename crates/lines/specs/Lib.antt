-- The call that moves one line, document 01's 'One line moved' and 'Refusals'.
--     Answer   what it answers, accepted or refused, and what it leaves in the lent buffers
--     Raised   two calls, one with a number added to the samples and the background of the other
pub mod Answer
pub mod Raised
