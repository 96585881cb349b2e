-- Settings, as document 01 describes them.
--     Setting   a setting with one part changed
pub mod Setting
