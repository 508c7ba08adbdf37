-- What the proofs of several functions use, and what other crates cite.
-- FloatBytes == a float read past a beginning that is left out
-- Examples == the definitions, computed on examples
-- Unique == each promise allows one result only
pub mod FloatBytes
mod Examples
pub mod Unique
