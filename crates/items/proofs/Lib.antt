-- What the proofs of several functions use, and what other crates cite.
-- ItemRecords  == items record by record
-- MemberPlaces == what a scan notes, and the places of the members one after another
-- Groups       == the items of a set of, permutation, superset or subset, step by step
-- Items        == the items of a record of: what is noted of each
-- Unique       == each promise allows one result only
pub mod ItemRecords
pub mod MemberPlaces
pub mod Groups
pub mod Items
pub mod Unique
