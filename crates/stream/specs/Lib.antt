-- The definitions of `stream`: the parts of the program's input (docs/RULES.md, "The program").
-- Input    == the parts of the input: the template, and each list
-- Contract == what the functions say
-- Assumes nothing: these are definitions.
pub mod Input
pub mod Contract
