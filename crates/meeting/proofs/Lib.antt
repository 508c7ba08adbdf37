-- What the proofs of several functions use, and what other crates cite.
-- Results    == the form of what leaves out given ranges
-- Betweens   == the ranges that a normal form may be written from
-- WholeForms == normal forms as bytes, and the ranges that they are written from
-- Meetings   == the meeting by sides and ranges is the meeting of the definition
-- Examples   == meetings, computed
-- Unique     == the promise of `meeting` allows one result only
mod Results
mod Betweens
pub mod WholeForms
pub mod Meetings
mod Examples
pub mod Unique
