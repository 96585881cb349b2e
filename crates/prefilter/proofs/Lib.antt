-- Laws of the coefficients in place.
--     InPlace   u and c in the places of a line's samples: what the code's loops keep
--     Four      four lines that lie one after the other in one list
pub mod InPlace
pub mod Four
