-- Laws of one line answered.
--     Called   what the straightener answers for a line that the tests accept, and what a well-formed line is answered
pub mod Called
