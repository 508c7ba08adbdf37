-- The definitions of `matching`: when a list matches (docs/RULES.md, "When a list matches"). Nothing here says how a witness is found.
-- Obeys  == the rules of an assignment
-- Search == the first witness in byte order, by trying all
-- Answer == what each entry point gives back
-- Assumes nothing: these are definitions.
pub mod Obeys
pub mod Search
pub mod Answer
