-- The definitions of `why`: the matcher's number, and why a list does not match (document 02, request Thirteen).
-- Why      == what `why_not` gives
-- Unmatched == when a group is to be given
-- Contract == what the private functions say
-- Assumes nothing: these are definitions.
pub mod Why
pub mod Unmatched
pub mod Contract
