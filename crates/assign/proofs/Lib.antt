-- What the proofs of several functions use, and what other crates cite.
-- SameRelation == relations that agree on a block and a piece have one answer
-- PieceOfBytes == assignments of a piece, and the same as 32 bytes
-- LeastFree == the least free member for each element in turn
-- AsManyAsCan == as many members as can be
-- NobodyWants == where no member of the block may take a spare element, a group is short
-- Answers  == an answer is complete, and there is one
-- Splices  == a piece of one list within another
-- Unique   == the promises of the public functions allow one result only
mod SameRelation
mod PieceOfBytes
mod LeastFree
mod AsManyAsCan
mod NobodyWants
pub mod Answers
pub mod Splices
pub mod Unique
