-- Laws that other crates cite.
-- ByteOrder == byte order is a strict total order; the first of a kind is one, and is found part by part
-- Examples  == byte order, computed
pub mod ByteOrder
mod Examples
