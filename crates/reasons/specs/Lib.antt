-- The definitions of `reasons`: why there is no assignment (document 02, request Thirteen).
-- Reason == groups of members, how many elements they match, and the one group that is given
-- Grow   == what the private functions say
-- Assumes nothing: these are definitions.
pub mod Reason
pub mod Grow
