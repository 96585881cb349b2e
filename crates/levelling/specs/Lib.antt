-- Levelling, as document 01 describes it.
--     Level    the levelling step, its refusals and its answer
--     Search   what the search for that step keeps
pub mod Level
pub mod Search
