-- What the proofs of several functions use, and what other crates cite.
-- AsThirtyTwoBytes == assignments as 32 bytes: the members served one by one, and one exchange
-- Refinement       == the least member at one place, and the places from left to right
-- WhoCanHave       == the rivals of a place, and who of them can have it
-- Unique           == the promise allows one result only
pub mod AsThirtyTwoBytes
pub mod Refinement
pub mod WhoCanHave
pub mod Unique
