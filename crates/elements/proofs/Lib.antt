-- What the proofs of several functions use, and what other crates cite.
-- Records     == one record at a place: what is said of it
-- FloatRecords == the leaves of the float family
-- TypedRecords == one record, with a type and without one
-- Scans       == a scan step by step
-- WholeInputs == the number for a whole input, from a scan of its front
-- Unique      == each promise allows one result only
pub mod Records
pub mod FloatRecords
pub mod TypedRecords
pub mod Scans
pub mod WholeInputs
pub mod Unique
