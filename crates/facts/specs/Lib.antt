-- The definitions of `facts`: they mention no notion of the project.
-- Counting  == numbers of a span, and counting
-- SameLists == whether two lists of numbers are the same
-- Assumes nothing: these are definitions.
pub mod Counting
pub mod SameLists
