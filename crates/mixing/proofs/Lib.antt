-- What the proofs of several functions use, and what other crates cite.
-- Mixtures == ranges of two sets, mixed turn by turn
-- Turned   == what a form leaves out
-- Unique   == each public function's promise allows one result only
mod Mixtures
pub mod Turned
pub mod Unique
