-- How a picture's samples are written anew: through a block, where rows become columns. Laws stand in proofs/.
--     Block   what is asked of the picture, the result and the block
pub mod Block
