-- The law of `Kind::try_from`.
-- Unique == its promise allows one result only
pub mod Unique
