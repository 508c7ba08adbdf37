-- The definitions of `plain`: records of element templates only.
-- Plain == their blocks, and their only witness
-- Assumes nothing: these are definitions.
pub mod Plain
