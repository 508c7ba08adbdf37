-- What the proofs of several functions use, and what other crates cite.
-- Accepts  == what is known of an element template that was read
-- Sets     == the ranges of an element template: what they hold, and how many they can be
-- SameForms == ranges that hold the same integers of a type have the same form
-- Lengths  == how many bytes a form has
-- Readings == what the bytes of a form read as: an element template that matches what the ranges hold
-- FormSides == the side that a form is written from, what it reads as, and how many leaves it has
-- Records  == records written one after the other, and a form by the number of its ranges
-- Unique   == each public function's promise allows one result only
-- Examples == normal forms and answers, computed
pub mod Accepts
pub mod Sets
pub mod SameForms
pub mod Lengths
pub mod Readings
pub mod FormSides
mod Records
pub mod Unique
mod Examples
