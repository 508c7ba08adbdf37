-- The definitions of `member_rows`: which member of a template matches which element of a list.
-- Contract == what the functions say
-- Places   == what is known of the places of members, and what a member adds to the rows
-- Assumes nothing: these are definitions.
pub mod Contract
pub mod Places
