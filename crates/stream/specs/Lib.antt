-- The line program on its whole input, document 01's 'The line program'.
--     Output    what it writes for an input
--     Steps     what it holds of an unfinished line, and what each step promises
--     Reached   where it stands after a turn
pub mod Output
pub mod Steps
pub mod Reached
