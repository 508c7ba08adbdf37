-- The definitions of `places`: the places of a list from which blocks can go on to its end.
-- Ways  == the places from which blocks go on, one block more at a time
-- Bytes == pieces at their places in 32 bytes
-- Assumes nothing: these are definitions.
pub mod Ways
pub mod Bytes
