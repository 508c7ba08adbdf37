-- What the proofs of several functions use, and what other crates cite.
-- Places   == bytes put at a place
-- Digits   == the digits of a number
-- Lines    == a line put together, and how long it is
-- Examples == a line, computed
-- Unique   == the promise allows one result only
mod Places
pub mod Digits
pub mod Lines
mod Examples
pub mod Unique
