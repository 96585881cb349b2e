-- Where a line ends.
--     Feed   a line feed, and how many bytes stand before the first
pub mod Feed
