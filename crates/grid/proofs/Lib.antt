-- Laws of neighbouring lines.
--     Rows   the work buffer as four rows
--     Laid   lines laid side by side, place by place or line after line
pub mod Rows
pub mod Laid
