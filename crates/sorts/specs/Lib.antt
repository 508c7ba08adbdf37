-- The definitions of `sorts`.
-- Sorts == the family and the type that a number says
-- Assumes nothing: these are definitions.
pub mod Sorts
