-- Bytes held in a word.
pub mod Word
