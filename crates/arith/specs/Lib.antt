-- Whole numbers as document 01 uses them. Laws and tools stand in proofs/.
--     Whole   the quotient rounded down, what is left over, rounding to the nearest; the lesser and the greater
--     Sum     finite sums, and the greatest size among finitely many numbers
--     Move    f and q of a move d
pub mod Whole
pub mod Sum
pub mod Move
