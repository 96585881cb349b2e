-- A picture arranged anew: each place of what is written holds the sample at one place of what is read. Laws stand in proofs/.
--     Places    a list read through a function of the place, and a bijection of the places 0 to n - 1
--     Moves     the eight exact moves of a picture (Q-10)
--     Table     two moves in a row as one, and the move that undoes one
--     Views     the eight moves by three tests, as the code reads a picture
--     Patches   a picture that is written patch by patch
pub mod Places
pub mod Moves
pub mod Table
pub mod Views
pub mod Patches
