-- A moved picture straightened.
--     Straightened   what both calls promise together
pub mod Straightened
