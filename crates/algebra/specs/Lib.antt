-- The definitions of `algebra`: element templates put together by hand, and the laws that their normal forms obey.
-- Together == lists and complements of given element templates, as bytes and as what they read as
-- Calls    == calls of the meeting: what its contract allows
-- Claims   == the laws, and what is claimed of the meeting
-- Assumes nothing: these are definitions.
pub mod Together
pub mod Calls
pub mod Claims
