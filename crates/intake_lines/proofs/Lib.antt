-- What the proofs of several functions use, and what other crates cite.
-- Headers  == the refusal of the whole input
-- Turns    == one list, one line
-- Bounds   == how far a call goes, for a caller that goes on from there
-- Examples == the example of docs/RULES.md, "The program", and its corners, computed
-- Unique   == each promise allows one result only
mod Headers
mod Turns
pub mod Bounds
mod Examples
pub mod Unique
