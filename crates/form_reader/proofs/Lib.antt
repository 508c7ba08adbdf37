-- What the proofs of several functions use, and what other crates cite.
-- RecordBytes == a record is read in one way only, and where none stands
-- Ranges == the ranges that may follow one, and the records read so far, turn by turn
-- FormShapes == how each form begins, and what the bytes of a form are by their first ones
-- Options == what is said of a form that was read or not, as an `Option`
-- WrittenOnce == bytes are the form of one list of ranges at most, on one side
-- Unique == the promise of the public function allows one result only
pub mod RecordBytes
mod Ranges
pub mod FormShapes
mod Options
pub mod WrittenOnce
pub mod Unique
