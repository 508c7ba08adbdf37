-- What is claimed of the program's output.
-- Claims == how long it can be
-- Assumes nothing: these are statements.
pub mod Claims
