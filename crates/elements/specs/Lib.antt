-- The definitions of `elements`. What an element template is stands in `grammar`.
-- Contract == what the scan says
-- Assumes nothing: these are definitions.
pub mod Contract
