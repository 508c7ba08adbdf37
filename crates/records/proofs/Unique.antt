-- The public function's promise allows one result only, stated of the contract itself. Assumes nothing.
use mathlib.Core.Path.{◌≡◌}
use borrow.Fn.Kinds.{Dens, res_t, ended_of}
use contract.Lifetimes.{Lfts}
use denote.Triple.Clauses.{AtExit}
use Rattle.blocks.proofs.FirstLists.{found_unique}
use Rattle.records.proofs.first_in_record.Reads as first-in-record-reads
use Rattle.records.proofs.first_in_record.Kinds as first-in-record-kinds

pub first_in_record_unique : (κs : Lfts 5) (a : Dens κs first-in-record-kinds.ps) (r r' : (res_t first-in-record-kinds.r κs).Denot) (s s' : AtExit (ended_of 5 first-in-record-kinds.ps first-in-record-kinds.r) κs)
    → first-in-record-reads.Pre κs a → first-in-record-reads.Post κs a r s → first-in-record-reads.Post κs a r' s' → r ≡ r'
first_in_record_unique κs a r r' s s' w p q =
    let served = w.0 in
    let who = served.placed.who in
    let stands = served.placed.stands in
    found_unique r r' (p served.family served.lent who stands) (q served.family served.lent who stands)
