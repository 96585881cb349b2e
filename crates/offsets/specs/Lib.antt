-- How far the lines of a pass move.
--     Moves   the move of each line, and the moves that a pass makes
pub mod Moves
