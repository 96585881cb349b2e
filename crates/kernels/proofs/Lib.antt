-- Laws of the kernels.
--     Numbers   a caller's numbers for them
--     Weights   the weights' sum, signs and sizes
--     Rows      how large the rows' numbers are
--     Four      four weights as the code keeps them, and the sum that they weigh
pub mod Numbers
pub mod Weights
pub mod Rows
pub mod Four
