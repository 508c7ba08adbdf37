-- What the proofs of several functions use, and what other crates cite.
-- Bodies == what each kind of body asks, by the members that are left over and the blocks
-- JudgedPairs == whether a witness obeys, by the pairs that it gives and by its body
-- Unique == the promise allows one result only
pub mod Bodies
pub mod JudgedPairs
pub mod Unique
