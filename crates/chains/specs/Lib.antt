-- The definitions of `chains`.
-- Chain == what the functions ask and give
-- Assumes nothing: these are definitions.
pub mod Chain
