-- Laws that every crate may cite.
-- Cases       == cases on tests and on the order of numbers, and what follows from a test
-- Spans       == the numbers of a span
-- Counting    == how many places of a list hold a number, and how many hold a member of a set
-- CountedSets == sets of numbers counted, one against another
-- Slices      == a piece of a list
-- Puts        == an output that is written from the front on
-- SameLists   == whether two lists of numbers are the same
pub mod Cases
pub mod Spans
pub mod Counting
pub mod CountedSets
pub mod Slices
pub mod Puts
pub mod SameLists
