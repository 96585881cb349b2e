-- Laws of steps.
--     Steps      S is odd, and the whole number nearest at every step
--     Examples   document 01's figures, computed
pub mod Steps
pub mod Examples
