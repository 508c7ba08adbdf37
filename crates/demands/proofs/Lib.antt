-- Calls       == the contracts of the entry points are equations: what a call gives is what the definitions give
-- NormalForms == laws of normal forms: what a form reads as, that it is the only one for its integers, and how long it is
-- WholeType   == with the least and the greatest integer the normaliser is that of document 01
-- Outcomes    == each number of the matcher, the judge and the normaliser with what it was given for
-- Claims      == the demands, the table and the other claims, proved
pub mod Calls
pub mod NormalForms
pub mod WholeType
pub mod Outcomes
pub mod Claims
