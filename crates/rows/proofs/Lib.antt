-- What the proofs of several functions use, and what other crates cite.
-- Rows       == a row is its element's members, or its member's elements
-- Examples   == the same relation by elements and by members, computed
-- Shifts     == the exchange of two rows, bit by bit
-- Digits     == the digits of the numbers of rows and columns
-- Exchanges  == pairs of rows and blocks of rows exchanged, one after the other
-- Transposes == rows and columns exchanged, one digit after the other
-- PieceRows == the rows of a piece, one element at a time
-- Unique     == the promises of the public functions allow one result only
pub mod Rows
mod Examples
mod Shifts
mod Digits
mod Exchanges
mod Transposes
mod PieceRows
pub mod Unique
