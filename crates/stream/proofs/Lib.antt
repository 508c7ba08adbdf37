-- What the proofs of several functions use, and what other crates cite.
-- Lists    == records of the input, and the integers of a list
-- Rests    == how far a list goes, and how many integers it has
-- Examples == records and templates of an input, computed
-- Unique   == each promise allows one result only
pub mod Lists
pub mod Rests
mod Examples
pub mod Unique
