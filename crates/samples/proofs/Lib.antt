-- The rules carry every starred row.
pub mod Starred
