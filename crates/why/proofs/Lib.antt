-- What the proofs of the functions use, and what other crates cite.
-- Examples == which group is given in examples, computed
-- Obeyed   == what obeys a superset or a subset, and groups
-- NumberAndGroup == the matcher's number and the group together
-- Grouping == from the plan to the group
-- Unique   == the promise allows one result only
mod Examples
pub mod Obeyed
pub mod NumberAndGroup
pub mod Grouping
pub mod Unique
