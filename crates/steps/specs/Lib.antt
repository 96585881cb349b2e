-- Steps, as document 01 describes them.
--     Table   S for every t from 0 to 1,697
--     Step    S(t), its rule, its answer, and the change by step
pub mod Table
pub mod Step
