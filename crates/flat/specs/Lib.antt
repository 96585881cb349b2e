-- Settings and answers as C and Rust hold them.
--     Exported   answers laid out as structs, and what an exported call says
--     Range      linear's range, and a number added to all samples, by these structs
--     Ahead      what a forecast promises of a straightening, by these structs
--     Sample     what an explanation promises of itself and of a moved line, by these structs
--     Slice      what a call on a block promises of the single call on a slice, by these structs
--     Quarters   what two moves in a row promise, and a move with the straightening of what it left, by these structs
pub mod Exported
pub mod Range
pub mod Ahead
pub mod Sample
pub mod Slice
pub mod Quarters
