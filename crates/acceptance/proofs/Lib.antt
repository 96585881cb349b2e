-- Laws of acceptance.
--     Examples   work places, and verdicts at both ends of every range and in the order of the numbers, computed
--     Accepted   the order of the numbers; a call is accepted just where none applies; the work that number 2 asks for; the sample that number 6 names
pub mod Examples
pub mod Accepted
