-- Laws of the block call.
--     Planes     the slices of each plane are the whole block, and every place is in the slice, the row and the column that the definitions say
--     Straight   a block straightened: what stands at each place, and that its slices are the single picture's three passes
--     Accepted   the order of the numbers, that a call is accepted just where none applies, and that 6 names the first sample beyond the range
--     Call       what makes up the answer, refused and accepted; what number 0 says, and what depth, row and column name
--     Pictures   the pictures of a block straightened one after the other, which are its slices in plane 0
--     TwoCalls   the same call twice, and a block call with the single call on one of its slices
--     Examples   slices, work places, verdicts and small blocks straightened, computed
pub mod Planes
pub mod Straight
pub mod Accepted
pub mod Call
pub mod Pictures
pub mod TwoCalls
pub mod Examples
