-- Calls of the meeting: what its contract allows, the contract being the one that the prover made of the `ensures` in src/, and no copy.
-- MeetingCall s t lo hi room n l after <-> by its contract `meeting` may give the number n and the length l and leave the room `after`, for the inputs s and
--             t, the bounds lo and hi of the element type, and the room
-- Assumes nothing: these are definitions.
use Rattle.std.specs.Prelude.{◌≡◌, List, ℕ, ℤ}
use borrow.Fn.Kinds.{Dens, res_t, ended_of}
use contract.Lifetimes.{Lfts}
use denote.Triple.Clauses.{AtExit}
use Rattle.meeting.proofs.meeting.Reads as meeting
use Rattle.meeting.proofs.meeting.Kinds as meeting-kinds

pub record MeetingCall (s t : List ℕ) (lo hi : ℤ) (room : List ℕ) (n l : ℕ) (after : List ℕ) : Type 0 where
  pub κs : Lfts 3
  pub lent : Dens κs meeting-kinds.ps
  pub result : (res_t meeting-kinds.r κs).Denot
  pub left : AtExit (ended_of 3 meeting-kinds.ps meeting-kinds.r) κs
  pub first : lent.0.now ≡ s
  pub second : lent.1.0.now ≡ t
  pub lower : lent.1.1.0 ≡ lo
  pub upper : lent.1.1.1.0 ≡ hi
  pub room_then : lent.1.1.1.1.0.now ≡ room
  pub number : result.number ≡ n
  pub size : result.length ≡ l
  pub room_now : left.1.1.1.1.0.now ≡ after
  pub allowed : meeting.Post κs lent result left
