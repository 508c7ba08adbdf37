-- Faults == which numbers a fault of the input can have, and how long its line is
-- Claims == the claim of specs/Claims.antt, proved
mod Faults
pub mod Claims
