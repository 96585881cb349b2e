-- Laws of tickets.
--     TwoCalls   an asking and a commit on its ticket, and a commit on any ticket
--     Examples   what the tests say of commits, computed
pub mod TwoCalls
pub mod Examples
