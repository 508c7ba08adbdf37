-- What the proofs of several functions use, and what other crates cite.
-- Numbers == the numbers of such blocks
-- UpFrom  == numbers one after the other
-- PlainCuts == cuts by such blocks
-- Unique  == the promise allows one result only
mod Numbers
pub mod UpFrom
pub mod PlainCuts
pub mod Unique
