-- Laws of lines and their answers.
--     Front     text at the front of a buffer: pieces behind each other, spelt and closed, where it fits
--     Text      the texts of answers, and the places that spell them
--     Outcome   the lowest number that applies, and the refusal that has it; a line that none applies to is accepted by the straightener
--     Judged    what a well-formed line tells, its answer by its number, and how long answers are
--     Sample    document 01's line and others, by computation
pub mod Front
pub mod Text
pub mod Outcome
pub mod Judged
pub mod Sample
