-- Laws of slices that lie in one list.
--     Places    slices transposed and exchanged; the samples of a slice as a list
--     Treated   one slice after the other, each by way of the part of the list that begins with it
--     Three     the rows of every slice moved; three such passes are document 01's of every slice
pub mod Places
pub mod Treated
pub mod Three
