-- What the proofs of several functions use, and what other crates cite.
-- Ranked == the laws of sets of ranges by their ranks
-- JoinsAndGaps == the laws of joining and of gaps; a set has one list of ascending ranges; how many ranges it can have
-- Cuts   == the laws of ranges cut to a type
-- Views  == what two arrays hold as ranges
-- Steps  == gaps, and whether an integer is held, a step at a time
-- Gapping == ranges in two arrays that become their gaps, turn by turn
-- Cutting == ranges in two arrays that become what they hold of a type, turn by turn
-- Unique == the promises of the public functions allow one result only
pub mod Ranked
pub mod JoinsAndGaps
pub mod Cuts
pub mod Views
mod Steps
pub mod Gapping
mod Cutting
pub mod Unique
