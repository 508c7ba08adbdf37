-- What the proofs of several functions use.
-- PieceTest     == what stands in a piece of an offered list, byte by byte
-- PieceEnds     == one walk over an offered list: where a piece of a block can end
-- OneMember     == what one member and no spare element take
-- SpareElements == what a block with no members takes
-- ReachedPlaces == the places that the blocks so far reach, one block more at a time
-- Unique        == the promises of the public functions allow one result only
mod PieceTest
mod PieceEnds
mod OneMember
mod SpareElements
mod ReachedPlaces
pub mod Unique
