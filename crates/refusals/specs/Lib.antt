-- Document 01, 'Refusals, by who causes them': what every call shares. Laws stand in proofs/.
--     Tests     the test of each number that several calls share
--     Judging   the lowest number that applies, and what document 01 answers under a verdict
pub mod Tests
pub mod Judging
