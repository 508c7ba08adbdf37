-- The definitions of `records`.
-- Records == which member matches which element, and what is known of the blocks so far
-- Runs    == runs of 20s as one 20
-- Assumes nothing: these are definitions.
pub mod Records
pub mod Runs
