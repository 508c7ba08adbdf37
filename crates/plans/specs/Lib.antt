-- The definitions of `plans`: what a plan says of the bytes of a template.
-- Plans == the plan of an accepted template, and of bytes that are refused
-- Assumes nothing: these are definitions.
pub mod Plans
