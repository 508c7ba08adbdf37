-- What the proofs of several functions use, and what other crates cite.
-- ByPlan         == from the plan, the rows and the blocks to the rules
-- LentLists      == how long the list of a family is, of two of which one is empty
-- Inside         == the refusals that follow the scan, by the plan
-- PlannedAnswers == from there to the answers of the entry points
-- Unique         == each promise allows one result only
pub mod ByPlan
pub mod LentLists
pub mod Inside
pub mod PlannedAnswers
pub mod Unique
