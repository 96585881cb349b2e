-- Lists by place: what contracts say of slices. Laws stand in proofs/.
--     Tab       a list given by a function of the place
--     Line      a cyclic line, and a list as one
--     Grid      the lines of a flat picture, read and replaced
--     Picture   a picture by row and column, and its flat list
--     Ends      the smallest and the largest of finitely many samples
pub mod Tab
pub mod Line
pub mod Grid
pub mod Picture
pub mod Ends
