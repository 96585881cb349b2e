-- Laws of the exact picture.
--     ExactLine   a line moved exactly: there is one, and one only
--     Step        one line, rounded against exact: 1/2 + ε, 1/2 + 5/4·ε, 3/4 + 3·ε
--     Whole       exact for one grey, and for whole samples
--     Border      the laws of one line under a border
--     Passes      three passes: 3/2, 2, 10
--     Straighten  the same of lists
--     Demand      demand 3 of the straightened picture
--     Limits      demand 3 in document 01's numerals
--     RuledOut    results that do not keep demand 3
pub mod ExactLine
pub mod Step
pub mod Whole
pub mod Border
pub mod Passes
pub mod Straighten
pub mod Demand
pub mod Limits
pub mod RuledOut
