-- What the proofs of several functions use, and what other crates cite.
-- LeafByKind    == a leaf of the integer family where it stands, by its kind: its size and its bounds
-- FloatByKind   == a leaf of the float family where it stands, by its kind: its size
-- ElementByKind == an element template that was read where it stands
-- Unique        == each promise allows one result only
pub mod LeafByKind
pub mod FloatByKind
pub mod ElementByKind
pub mod Unique
