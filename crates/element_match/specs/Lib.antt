-- The definitions of `element_match`. What an element template matches stands in `grammar`.
-- Contract == what the functions say
-- Assumes nothing: these are definitions.
pub mod Contract
