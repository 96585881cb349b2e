-- Laws of lists by place. `Examples` shows a strided line and a table's rule.
--     Tab       a list given by a function of the place; a loop that fills a list so, from the front or from the end
--     Fill      a loop that fills a list from the same places of a source, or with one value
--     Cyclic    periodic lines: what holds on the first N places holds everywhere
--     Rows      a flat list of rows
--     Part      a part put back, place by place
--     Grid      a line read back, every other place and line unchanged, lines of one direction apart and covering, rows and columns
--     Picture   places of a picture, and of the flat list of its samples
--     Ends      the smallest is one of the samples and not above any, the largest likewise; those of the rows are those of the whole
--     Table     a rule over a whole table, by one computed test
pub mod Tab
pub mod Fill
pub mod Cyclic
pub mod Rows
pub mod Part
pub mod Grid
pub mod Picture
pub mod Ends
pub mod Table
pub mod Examples
