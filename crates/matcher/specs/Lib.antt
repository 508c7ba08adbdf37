-- The definitions of `matcher`. What it promises is said by the definitions of `matching`.
-- Contract == what is known of a plan and the lists lent with it, and what the private function says
-- Assumes nothing: these are definitions.
pub mod Contract
