-- Laws of the answers that C and Rust receive.
--     Figures    what each case of an answer is laid out as
--     Settings   a flat setting and its changes
--     Tickets    a flat ticket, and the two calls that it goes between
--     Range      linear's range, and a number added to all samples, as C and Rust are told
--     Ahead      a forecast and a straightening, as C and Rust are told
--     Sample     an explanation and a moved line, as C and Rust are told
--     Slice      a call on a block and the single call on a slice, as C and Rust are told
--     Quarters   two moves in a row, and a moved picture straightened, as C and Rust are told
--     Examples   answers of the calls, laid out and computed
pub mod Figures
pub mod Settings
pub mod Tickets
pub mod Range
pub mod Ahead
pub mod Sample
pub mod Slice
pub mod Quarters
pub mod Examples
