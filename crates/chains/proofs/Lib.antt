-- What the proofs of several functions use, and what other crates cite.
-- Chains  == the steps of `settle`, over any sets of members and of places
-- Explorations == the steps of `explore`, and that `settle` then finds a chain
-- Blocked == groups of members whose elements are too few: what a failed search shows, by counting
-- Unique  == what the promises allow one result of
pub mod Chains
pub mod Explorations
pub mod Blocked
pub mod Unique
