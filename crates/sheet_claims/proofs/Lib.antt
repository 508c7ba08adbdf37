-- Reading == a template under sheet 1 and under sheet 2
-- Claims  == the claims of specs/Claims.antt, proved
mod Reading
pub mod Claims
