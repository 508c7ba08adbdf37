-- What the proofs of several functions use.
-- Sides  == a form in a room, and the side that a form is written from
-- Unique == each public function's promise allows one result only
mod Sides
pub mod Unique
