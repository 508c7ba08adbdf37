-- The definitions of `assign`: what its functions give. What an assignment is stands in `blocks`.
-- Answer   == what `first_assignment` gives
-- Widest   == an assignment of as many members as can be
-- Splice   == the bytes of two lists put together
-- Saturate, Quick == what the private functions give
-- Assumes nothing: these are definitions.
pub mod Answer
pub mod Saturate
pub mod Quick
pub mod Widest
pub mod Splice
