-- The definitions of `blocks`: what a block takes. Nothing here says how it is found.
-- Assignment == assignments of a piece by a block, and groups of members that are short of elements
-- Pieces     == lists cut into pieces, one for each block; lists in which every element has a member; the first of them
-- Numbers    == blocks as numbers
-- Assumes nothing: these are definitions.
pub mod Assignment
pub mod Pieces
pub mod Numbers
