-- The definitions of `integers`: 32-bit integers as four bytes, and their order.
-- Integer == the 32-bit integers and their four bytes
-- Rank    == the order of the 32-bit integers, carried to ℕ
-- Assumes nothing: these are definitions.
pub mod Integer
pub mod Rank
