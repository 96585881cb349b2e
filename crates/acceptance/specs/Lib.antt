-- Which calls are straightened, document 01's 'Refusals'. Laws stand in proofs/.
--     Judge   the work places that a picture takes, and the tests of numbers 1, 2, 14, 3, 4, 5, 12 and 6, in their order
pub mod Judge
