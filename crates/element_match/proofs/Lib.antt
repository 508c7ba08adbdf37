-- What the proofs of several functions use.
-- Asked  == the asked elements, gone through one by one
-- Walks  == a leaf's test, and the walk over several members, turn by turn
-- Unique == each promise allows one result only
mod Asked
pub mod Walks
pub mod Unique
