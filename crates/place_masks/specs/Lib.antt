-- The definitions of `place_masks`: sets of the places of a list as masks.
-- Places == the least and the greatest place, and the places that lie some elements before or after those of a mask
-- Assumes nothing: these are definitions.
pub mod Places
