-- What the proofs of several functions use, and what other crates cite.
-- Blanks      == pieces of lists that are 255 at one end
-- Windows     == pieces at their places in 32 bytes, with 255 around
-- Backward    == the places from which blocks go on, one block more at a time
-- GroupPlaces == the places from which a group leads to those that are good
-- LentPlaces  == blocks that are read of lent numbers, from the last to the first
-- Unique      == the promises of the public functions allow one result only
pub mod Blanks
pub mod Windows
pub mod Backward
pub mod GroupPlaces
pub mod LentPlaces
pub mod Unique
