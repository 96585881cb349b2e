-- Laws of one shear.
--     Moved   a line, or four, prepared and weighed in the work buffer, are put back as moved lines
pub mod Moved
