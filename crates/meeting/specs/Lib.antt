-- The definitions of `meeting`: the normal form of what two normal forms both match, and every refusal.
-- Meeting  == what the meeting gives back for every input
-- Contract == what the functions below it say
-- Assumes nothing: these are definitions.
pub mod Meeting
pub mod Contract
