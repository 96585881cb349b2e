-- Laws of the three-pass call.
--     Examples   the moves of a setting, the figures of an outcome and the count, computed
--     Call       what makes up the answer, refused and accepted, with demand 3 and linear's range; what number 0 says, and what row and column name
--     Raised     two calls, one with a number added to the samples and the background of the other
--     Three      a picture of its own is one slice, and straightened so it is document 01's three passes
pub mod Examples
pub mod Call
pub mod Raised
pub mod Three
