-- OtherPairs == cuts by other pairs
-- Claims == the claims of specs/Claims.antt, proved
pub mod OtherPairs
pub mod Claims
