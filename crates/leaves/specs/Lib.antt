-- The definitions of `leaves`. What an element template is stands in `grammar`.
-- Leaves == an element template or a leaf where it stands, and what it matches
-- Assumes nothing: these are definitions.
pub mod Leaves
