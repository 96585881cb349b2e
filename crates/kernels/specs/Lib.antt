-- Document 01's kernels.
--     Kernel   rows, weights and the weighted sum
--     Four     a line's four weights as the code keeps them
pub mod Kernel
pub mod Four
