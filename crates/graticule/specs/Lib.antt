-- Line under the two points (Q-8). Laws stand in proofs/.
--     Look      the row that is looked at in a column, and the first sample there below the threshold
--     Checked   what levelling with a picture is refused under, and what it answers
pub mod Look
pub mod Checked
