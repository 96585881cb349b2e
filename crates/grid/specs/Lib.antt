-- Neighbouring lines of a picture in a work buffer.
--     Four   four lines at a time
pub mod Four
