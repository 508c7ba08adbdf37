-- The definitions of `fillings`. What it promises is said by the definitions of `blocks`.
-- Pad == elements that every member may take
-- Assumes nothing: these are definitions.
pub mod Pad
