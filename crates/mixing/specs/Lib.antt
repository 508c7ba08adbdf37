-- The definitions of `mixing`: what is said of the functions that find what two forms leave out.
-- Mixing == ranges of two sets, mixed, and what is not in both of two forms
-- Assumes nothing: these are definitions.
pub mod Mixing
