-- The line program's own loop.
--     Run   what a turn, all turns and the end of the input come to
pub mod Run
