-- The definitions of `items`. What an item is stands in `grammar`.
-- Notes == what a scan notes of the members it reads
-- Assumes nothing: these are definitions.
pub mod Notes
