-- What the proofs of several functions use.
-- Agreeing == which member matches which element, however it is held
-- Widening == a list written into 32 integers
-- RowByRow == one row changed at a time, and the members one by one
-- RowsAndPairs == the rows of a list say of each pair whether it matches
-- Unique == each promise allows one result only
pub mod Agreeing
pub mod RowByRow
mod Widening
pub mod RowsAndPairs
pub mod Unique
