-- What the proofs of both functions use, and what other crates cite.
-- Steps  == the lines of all lists, one turn at a time
-- Sizes  == how long a list's line is, by the bytes of the list
-- Filled == the output, written from the front on turn by turn
-- Unique == the promise allows one result only
pub mod Steps
pub mod Sizes
mod Filled
pub mod Unique
