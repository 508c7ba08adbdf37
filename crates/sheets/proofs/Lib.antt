-- What the proofs of several functions use.
-- LeastMembers == a member for each element in turn, and why the least ones make the first list
-- Unique       == each public function's promise allows one result only
mod LeastMembers
pub mod Unique
