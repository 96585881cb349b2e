-- Laws of a picture that is written anew.
--     Runs   a run of a row lies inside the picture, and what is read from the block
pub mod Runs
