-- Claims == the claims of specs/Claims.antt, proved
pub mod Claims
