-- The definitions of `refining`.
-- AsBytes == assignments as 32 bytes
-- Refine  == what the functions ask and give
-- Assumes nothing: these are definitions.
pub mod AsBytes
pub mod Refine
