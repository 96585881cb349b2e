-- Laws of forecasts.
--     Accepted   which forecasts are accepted: the numbers, computed, and what an accepted one has passed
--     TwoCalls   a forecast, and a straightening of its size and setting
--     Examples   bounds, and the figures of small pictures, computed
pub mod Accepted
pub mod TwoCalls
pub mod Examples
