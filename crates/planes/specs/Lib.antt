-- Pictures that lie side by side in one list, document 02's slices, and document 01's three passes over them. Laws stand in proofs/.
--     Slices   where the samples of the slices stand
--     Sweep    the rows of every slice moved, and every slice straightened
pub mod Slices
pub mod Sweep
