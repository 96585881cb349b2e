-- Laws of hexadecimal digits.
--     Test    which bytes are digits, one at a time and all of a line
--     Passes  a word's eight bytes tested at once
--     Value   what digits write, read from the front
--     Place   places filled from the end, and spelt
--     Filled  a buffer filled from its own places
pub mod Test
pub mod Passes
pub mod Value
pub mod Place
pub mod Filled
