-- What other crates cite.
-- Words  == the number of a family and a type says both
-- Unique == each promise allows one result only
pub mod Words
pub mod Unique
