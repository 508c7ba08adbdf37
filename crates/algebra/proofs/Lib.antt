-- Rereads == what was read is read again with other depths left and after other leaves; how deep it is, and how many bytes it takes
-- Joins   == a list or a complement of accepted parts is accepted exactly where it fits
-- Meetings == calls of the meeting: each number with what it was given for
-- Written == what calls of the normaliser and of the meeting write
-- Claims  == the laws, proved
mod Rereads
mod Joins
mod Meetings
mod Written
pub mod Claims
