-- Laws that the scan's uniqueness cites, and the definitions on small examples.
-- OnePlan  == what a plan leaves open
-- Examples == the definitions on small examples
pub mod OnePlan
mod Examples
