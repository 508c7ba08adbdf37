-- The claims of the sheets.
-- Claims == what is claimed of a template under either sheet
-- Assumes nothing: these are statements.
pub mod Claims
