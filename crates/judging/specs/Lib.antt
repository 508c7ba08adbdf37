-- The definitions of `judging`: what its functions give on the way. What it promises is said by the definitions of `blocks`.
-- Reach == the places that the blocks so far reach in an offered list, and what stands in a piece of it
-- Assumes nothing: these are definitions.
pub mod Reach
