-- The definitions of `ask_parts`.
-- Kind == the kinds of requests, and the byte of each
-- Assumes nothing: these are definitions.
pub mod Kind
