-- Laws of levelling.
--     Levelling   the step with the smallest miss: the only one, and beside the change of sign
--     Judging     what the tests of levelling tell, and the answers that follow
--     Examples    document 01's figures, computed
pub mod Levelling
pub mod Judging
pub mod Examples
