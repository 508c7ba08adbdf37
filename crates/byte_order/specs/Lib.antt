-- The definitions of `byte_order`.
-- ByteOrder == byte order on lists of bytes, and the first list of a kind
-- Assumes nothing: these are definitions.
pub mod ByteOrder
