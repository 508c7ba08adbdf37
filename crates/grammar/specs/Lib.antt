-- What a template is, which bytes are one, and which integers an element template matches (docs/RULES.md, "The records" and "When an element matches").
-- Element  == element templates
-- Record   == one record: its own faults and its parts
-- Leaf     == the leaves of the integer family
-- FloatLeaf == the leaves of the float family
-- Read     == a refusal, or what was read and the bytes after it
-- Reading  == bytes to element templates, with every refusal
-- Matches  == whether an element template matches an integer
-- Family   == the two families
-- Template == items, bodies, the length attribute, templates
-- Members  == the members by their numbers
-- Whole    == bytes to templates, with every refusal
-- Blocks   == the blocks of a body, and where its members stand
-- Assumes nothing: these are definitions.
pub mod Element
pub mod Record
pub mod Leaf
pub mod FloatLeaf
pub mod Read
pub mod Reading
pub mod Matches
pub mod Family
pub mod Template
pub mod Members
pub mod Whole
pub mod Blocks
