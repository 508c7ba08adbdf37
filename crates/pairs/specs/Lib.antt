-- The definitions of `pairs`: the pairs that an offered witness gives.
-- Pairs == which of them are right, and which members are left over
-- Assumes nothing: these are definitions.
pub mod Pairs
