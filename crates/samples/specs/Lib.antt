-- Document 01, 'Line and picture samples'.
--     Starred   the starred rows as one list, and what it is for the rules to carry a row
--     Further   rows of our own where a reader would doubt
pub mod Starred
pub mod Further
pub mod Edges
