-- The claims of reasons.
-- Calls  == calls of `why_not` and `why_not_floats`: what their contracts allow
-- Claims == what is claimed of short groups and of `why_not`
-- Assumes nothing: these are statements.
pub mod Calls
pub mod Claims
