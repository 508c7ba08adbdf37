-- The claims of the search.
-- Claims == what is claimed of assignments, of cuts and fillings, and of the rows
-- Assumes nothing: these are statements.
pub mod Claims
