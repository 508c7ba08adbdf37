-- The definitions of `format`.
-- Bounds == min and max of a 20 or a 30
-- Assumes nothing: these are definitions.
pub mod Bounds
