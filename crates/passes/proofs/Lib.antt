-- Laws of the three passes.
--     Places     the samples of a straightened list
--     Rows       a row of pass 1 depends on that row and the setting only
--     Stages     the passes one after the other, as lists
--     Count      the count is at most 2(H-1) + (W-1)
--     Reach      how far samples reach after each pass, and after all three
--     Range      linear keeps the range of the samples and the background; linear and Keys add what is added to all of them
--     Nearly     the spline adds it to within 13 units
--     Examples   small pictures, computed
pub mod Places
pub mod Rows
pub mod Stages
pub mod Count
pub mod Reach
pub mod Range
pub mod Nearly
pub mod Examples
