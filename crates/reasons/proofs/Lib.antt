-- What the proofs of several functions use, and what other crates cite.
-- Groups   == of the groups whose shortfall is greatest, one lies inside all the others
-- Closures == what an assignment of as many members as can be shows of groups
-- Choices  == an element for each member, read as an assignment
-- Hall     == each member can choose an element of its own, or a group is short
-- Ones     == the ones of a mask are the numbers in it
-- Sweeps   == sweeps until nothing is added
-- Unique   == each promise allows one result only
pub mod Groups
pub mod Closures
pub mod Choices
pub mod Hall
pub mod Ones
pub mod Sweeps
pub mod Unique
