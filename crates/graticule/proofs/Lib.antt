-- Laws of levelling with a picture, each after computed examples of what it is about.
--     Look      the row that is looked at lies between those of the two points, inside the picture; what is found is the first below the threshold
--     Judging   what the tests tell, and the answer that follows
pub mod Look
pub mod Judging
