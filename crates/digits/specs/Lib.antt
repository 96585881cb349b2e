-- The digits of document 01's 'The line program'.
pub mod Digit
