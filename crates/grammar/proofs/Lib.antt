-- Laws of reading and of what was read.
-- Examples       == every refusal row and every open point about reading, and elements that match, computed
-- RecordParts    == one record at a place: its kind, and the fault of its count
-- ReadApart      == what was read, taken apart: the parts of an element template, and where they stand
-- Deeper         == readings put together: more depths left, one reading after another, and how many bytes they take
-- Growing        == what was read is read the same with any bytes behind it
-- TypedReading   == readings with an element type and without one
-- LeafBounds     == a leaf matches what lies between its bounds
-- RefusalNumbers == which numbers a refusal can have
-- MemberLimit    == what was accepted has at most 4,096 bytes and 32 members
-- Members        == the numbers of members
-- Families       == the lists of the two families
mod Examples
pub mod RecordParts
pub mod ReadApart
pub mod Deeper
pub mod Growing
pub mod TypedReading
pub mod LeafBounds
pub mod RefusalNumbers
pub mod MemberLimit
pub mod Members
pub mod Families
