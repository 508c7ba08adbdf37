-- What is proved of the exported functions beside their contracts.
-- Unique == each promise allows one result only
pub mod Unique
