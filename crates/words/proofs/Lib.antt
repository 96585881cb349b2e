-- Laws of bytes held in a word.
--     Held      loading bytes into a word and taking them out again are inverse; a word's bytes by place
--     Lanes     operations that work on a word's bytes apart
--     Marks     bytes marked in a word by a test
--     Formula   what is right at each of the 256 bytes is right at every word
pub mod Held
pub mod Lanes
pub mod Marks
pub mod Formula
