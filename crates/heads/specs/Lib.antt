-- The definitions of `heads`. What a template is stands in `grammar`.
-- Fronts == what is said of the heads of a template and of the record of its body
-- Assumes nothing: these are definitions.
pub mod Fronts
