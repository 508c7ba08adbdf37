-- The definitions of `forms`: the normal form of an element template (docs/RULES.md, "The normal form"), and the answer that has it.
-- Matched == the maximal ranges of the integers that an element template matches
-- Form    == the bytes that the form of a set of integers has, and how many
-- Answer  == what the normaliser gives back for every input
-- Assumes nothing: these are definitions.
pub mod Matched
pub mod Form
pub mod Answer
