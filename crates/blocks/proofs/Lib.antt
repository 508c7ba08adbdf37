-- Laws that the search and the judge share.
-- Assignments  == assignments of a piece by a block, as rules and as a test, and groups that are short
-- OneMember    == what one member and no spare element take
-- SpareBlocks  == what a block with no members takes
-- Cutting      == lists cut into pieces
-- FirstLists   == the first list of a kind, and tests that say whether something holds
-- BlockNumbers == blocks as numbers
-- LentBlocks   == blocks as they are read of lent numbers
-- Examples     == the definitions on small examples
-- Unique       == the promises allow one result each
pub mod Assignments
pub mod OneMember
pub mod SpareBlocks
pub mod Cutting
pub mod FirstLists
pub mod BlockNumbers
pub mod LentBlocks
mod Examples
pub mod Unique
