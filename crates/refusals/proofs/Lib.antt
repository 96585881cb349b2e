-- Laws of the tests and of verdicts.
--     Tests     what a test that failed tells
--     First     the first sample beyond its range: nothing is found just where every sample is within it, and what is found is the first
--     Judging   what an accepted call has passed
--     Figures   the number, the row and the column that a verdict tells
--     Examples  document 01's numbers, computed
pub mod Tests
pub mod First
pub mod Judging
pub mod Figures
pub mod Examples
