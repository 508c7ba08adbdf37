-- The definitions of `fronts`: the first cut, from the first block on.
-- Fronts == how far the cut is settled, and one block more
-- Picks  == the first of the lists that a group takes from one of several places
-- Given  == what `first_cut_from` is given
-- Assumes nothing: these are definitions.
pub mod Fronts
pub mod Picks
pub mod Given
