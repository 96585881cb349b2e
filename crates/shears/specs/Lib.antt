-- One shear of a picture, document 01's 'Three passes', as the code takes it.
--     Pass   every line of one direction moved
pub mod Pass
