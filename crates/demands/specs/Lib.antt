-- What is promised, in one place.
-- Judged      == the judged examples that are to be established of the definitions, as one table
-- NormalForms == element templates by themselves, and when two match the same integers
-- DocumentOne == the normaliser of document 01, which knew no type
-- Calls       == calls of the entry points: what their contracts allow
-- Claims      == the three demands of the request, that the table is right, and that matcher and judge agree
-- Assumes nothing: these are definitions.
pub mod Judged
pub mod NormalForms
pub mod DocumentOne
pub mod Calls
pub mod Claims
