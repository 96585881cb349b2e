-- One line moved, document 01's 'One line moved'.
--     Move      the move, in the document's words
--     Border    the same under a border
--     Range     the range of a line's samples and the background, and one number added to all of them
--     InPlace   the move by steps, as the code takes them
--     Row       the row that a line is moved in under a border
pub mod Move
pub mod Border
pub mod Range
pub mod InPlace
pub mod Row
