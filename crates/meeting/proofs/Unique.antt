-- The promise of `meeting` allows one result only: stated of its very contract. Assumes nothing.
use mathlib.Core.Path.{◌≡◌}
use borrow.Fn.Kinds.{Dens, res_t, ended_of}
use contract.Lifetimes.{Lfts}
use denote.Triple.Clauses.{AtExit}
use Rattle.forms.proofs.Unique.{answer_parts}
use Rattle.meeting.proofs.meeting.Reads as reads
use Rattle.meeting.proofs.meeting.Kinds as kinds

-- number, length and every byte of the room
pub meeting_unique : (κs : Lfts 3) (a : Dens κs kinds.ps) (r r' : (res_t kinds.r κs).Denot) (s s' : AtExit (ended_of 3 kinds.ps kinds.r) κs)
    → reads.Post κs a r s → reads.Post κs a r' s' → (r.number ≡ r'.number) × (r.length ≡ r'.length) × (s.1.1.1.1.0.now ≡ s'.1.1.1.1.0.now)
meeting_unique κs a r r' s s' p q = answer_parts _ _ _ _ _ _ _ p q
