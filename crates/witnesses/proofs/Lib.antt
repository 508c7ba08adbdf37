-- What the proofs of several functions use, and what other crates cite.
-- ByKind == a subset is filled by its members, every other body is cut by its blocks
-- OneBlock == what one block takes of a whole list
-- Unique == the promises allow one result each
pub mod ByKind
mod OneBlock
pub mod Unique
