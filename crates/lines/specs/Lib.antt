-- The definitions of `lines`: a line of numbers, and what it means to put one into a lent buffer.
-- Line     == numbers in decimal, and a line of them
-- Contract == what the functions say
-- Assumes nothing: these are definitions.
pub mod Line
pub mod Contract
