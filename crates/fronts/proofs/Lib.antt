-- What the proofs of several functions use, and that the promises of the public functions allow one result each.
-- Orders     == where one list comes before another
-- Steps      == the first cut, one block more
-- Picked     == the first of the lists that a group takes from one of several places
-- Groups     == a group is settled by the first of its lists
-- Moves      == one block more, as the functions do it
-- LentFronts == the blocks that are read of lent numbers
-- Unique     == the promises of `first_cut_from` and `first_cut_by_group` allow one result each
pub mod Orders
pub mod Steps
pub mod Picked
pub mod Groups
pub mod Moves
pub mod LentFronts
pub mod Unique
