-- One line of document 01's 'The line program', and the line that answers it. Lines are lists of bytes.
--     Line       what a line says, and when it is well formed
--     Answer     the lowest number that applies, and the answers
--     Room       text at the front of a lent buffer
--     Answered   what answering a line leaves in every lent buffer
pub mod Line
pub mod Answer
pub mod Room
pub mod Answered
