-- Size and work beforehand (Q-9). Laws stand in proofs/.
--     Figures    the figures of a forecast, and what it is refused under
--     TwoCalls   what a forecast and a straightening promise together
pub mod Figures
pub mod TwoCalls
