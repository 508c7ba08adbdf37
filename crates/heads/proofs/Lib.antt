-- What the proofs of several functions use, and what other crates cite.
-- HeadRecords == the heads and the record of the body, test by test
-- Unique      == each promise allows one result only
pub mod HeadRecords
pub mod Unique
