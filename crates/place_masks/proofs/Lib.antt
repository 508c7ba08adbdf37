-- Laws of masks of places, and that each promise allows one result only.
-- PlaceBits == the bits of a mask of places that is cut off, moved or filled
-- Spreads   == places spread by spare elements
-- Unique    == the promises of the public functions allow one result only
pub mod PlaceBits
pub mod Spreads
pub mod Unique
