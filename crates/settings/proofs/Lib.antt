-- Laws of settings.
--     Changes   the changed part is what was handed in, the others are kept, and the later of two changes stands
pub mod Changes
