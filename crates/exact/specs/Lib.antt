-- The exact picture of document 01's 'Three passes', and demand 3.
--     ExactLine      a line of fractions moved with nothing rounded
--     ExactPicture   the three passes in fractions, from the samples as handed in
--     Limits         demand 3: how far a result may lie from the exact picture, and where it equals it
pub mod ExactLine
pub mod ExactPicture
pub mod Limits
