-- What other crates cite.
-- Unique == the promise allows one result only
pub mod Unique
