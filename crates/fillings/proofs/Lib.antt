-- What the proofs of several functions use.
-- Fillings == the members that a filling leaves, and the elements that are added for them
-- Unique   == the promise allows one result only
mod Fillings
pub mod Unique
