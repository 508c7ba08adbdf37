-- What the proofs of several functions use.
-- Blocks    == one block more in front, of each kind
-- PlainCuts == cuts by plain blocks, element by element
-- Loop      == all blocks, from the last to the first
-- JoinedRuns == runs of 20s as one 20
-- Unique    == the promise allows one result only
mod Blocks
mod PlainCuts
mod Loop
mod JoinedRuns
pub mod Unique
