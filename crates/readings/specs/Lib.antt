-- Document 01, 'Readings'. Laws stand in proofs/.
--     Sample    the forms that one sample is given in: grey, float, reading
--     Answers   what each call answers, and what it leaves in a lent buffer
pub mod Sample
pub mod Answers
