-- What the proofs of several functions use.
-- Sorts  == ranges put in the order of their lower ends
-- Sweeps == one sweep over ranges whose lower ends rise
-- Unique == the promises of the public functions allow one result only
mod Sorts
mod Sweeps
pub mod Unique
