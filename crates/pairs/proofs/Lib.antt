-- What the proofs of several functions use.
-- ByteByByte == an offered witness gone over byte by byte
-- Unique     == the promise allows one result only
mod ByteByByte
mod Turns
pub mod Unique
