-- What the proofs of several functions use, and what other crates cite.
-- FourBytes == the four bytes of an integer say it, and four bytes are those of what they say
-- Ranks == comparison, equality and neighbours of 32-bit integers, by their ranks
-- SignedLocals == signed locals of the code: their integers, tests of them, their neighbours
-- Unique == each promise allows one result only
pub mod FourBytes
pub mod Ranks
pub mod SignedLocals
pub mod Unique
