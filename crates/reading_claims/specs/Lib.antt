-- The claims of reading.
-- Claims == what is claimed of integers as bytes and of the reading of templates
-- Assumes nothing: these are statements.
pub mod Claims
