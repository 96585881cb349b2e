-- The block call of document 02, Q-13. Laws stand in proofs/.
--     Block      a block, its slices in each of the three planes, and the block straightened in one
--     Judge      which blocks are straightened: the work places, and the tests of numbers 1, 17, 2, 3, 4, 5, 12 and 6, in their order
--     Answer     the whole answer: outcome, result and work, and the single call's contract on every slice
--     TwoCalls   a block call, and the single call on one of its slices
pub mod Block
pub mod Judge
pub mod Answer
pub mod TwoCalls
