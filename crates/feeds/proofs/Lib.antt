-- Laws of where a line ends.
--     Length   the length by parts, and as a search finds it
--     Feed     line feeds in a word
pub mod Length
pub mod Feed
