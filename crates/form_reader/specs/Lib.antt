-- The definitions of `form_reader`: which bytes are a normal form, by the ranges that they are written from.
-- FormRead == normal forms as bytes, and what is said of the functions that read them
-- Assumes nothing: these are definitions.
pub mod FormRead
