-- The definitions of `sweeping`: ranges in the order of their lower ends, and one sweep over them.
-- Sorting == what is said of ranges that are put in order, and swept
-- Assumes nothing: these are definitions.
pub mod Sorting
