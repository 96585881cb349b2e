-- Laws of the line program on its whole input.
--     Output    how parts of an input come together: lines split over blocks give the same output; how long answers are
--     Cut       a line that is cut is answered as the whole line is
--     Promise   how each step keeps its promise
--     Reached   the program from turn to turn
pub mod Output
pub mod Cut
pub mod Promise
pub mod Reached
