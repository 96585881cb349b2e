-- Laws of one moved line.
--     Rules      the definition follows document 01's sentences; a line's own places alone decide it
--     Mixed      the weighted sum of a multiple, of one grey, and of samples with a number added to each
--     Reach      how far the moved samples reach
--     Window     a line weighed in place, by a window that slides along it
--     InPlace    prepared, weighed in place and turned, a line is moved
--     Whole      a line that moves by whole places
--     Border     a line moved under a border
--     Kept       a part of a row weighed as a line of its own
--     Range      linear keeps the range of its samples and the background; linear and Keys add what is added to all of them
--     Nearly     the spline adds it to within 1 unit
--     Examples   lines worked out by the checker: the others do not
pub mod Rules
pub mod Mixed
pub mod Reach
pub mod Window
pub mod InPlace
pub mod Whole
pub mod Border
pub mod Kept
pub mod Range
pub mod Nearly
pub mod Examples
