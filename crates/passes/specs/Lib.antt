-- The three passes over a picture and the count of lines interpolated, document 01's 'Three passes'.
pub mod Picture
pub mod Count
