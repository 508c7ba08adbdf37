-- The definitions of `witnesses`: which assignments a body takes. How one is found or tested is not said here.
-- ByKind == by the kind of a body, its blocks, how many members it has, and which member may take which element
-- Assumes nothing: these are definitions.
pub mod ByKind
