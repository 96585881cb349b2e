-- Laws of the spline's coefficients.
--     Rules          the definitions follow document 01's sentences
--     Exact          exact coefficients are bounded by 3 times the line, so determined by it
--     Existence      every line has them, over one denominator for its length
--     Settle, Near   the rounded coefficients are within 37/11 of 16 times the exact ones
--     ExactList      the same of lists
--     Raised         a number added to every sample of a line
--     Sizes          how large u, v and c come
--     Examples       coefficients of short lines, computed
pub mod Rules
pub mod Exact
pub mod Existence
pub mod Settle
pub mod Near
pub mod ExactList
pub mod Raised
pub mod Sizes
pub mod Examples
