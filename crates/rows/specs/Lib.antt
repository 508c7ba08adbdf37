-- The definitions of `rows`: which member may take which element, and rows of elements turned to rows of members.
-- Rows     == which member may take which element
-- Exchange == rows and columns exchanged
-- Columns  == rows turned
-- Assumes nothing: these are definitions.
pub mod Rows
pub mod Exchange
pub mod Columns
