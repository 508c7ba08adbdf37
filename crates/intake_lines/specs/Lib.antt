-- The definitions of `intake_lines`: what the program prints (docs/RULES.md, "The program").
-- Output   == the whole output as a function of the input's bytes
-- Contract == what the functions say
-- Assumes nothing: these are definitions.
pub mod Output
pub mod Contract
