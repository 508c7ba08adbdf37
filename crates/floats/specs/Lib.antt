-- The definitions of `floats`: 64-bit floats as eight bytes, and the leaves of the float family.
-- Bytes  == eight bytes and a float
-- Leaves == the faults of a leaf, and when it matches
-- Assumes nothing: these are definitions.
pub mod Bytes
pub mod Leaves
