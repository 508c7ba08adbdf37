-- The contracts of the public functions allow one result each. Stated of the contracts themselves, as the check reads them. Assumes nothing.
use mathlib.Core.Path.{◌≡◌}
use borrow.Fn.Kinds.{Dens, res_t, ended_of}
use contract.Lifetimes.{Lfts}
use denote.Triple.Clauses.{AtExit}
use Rattle.blocks.proofs.FirstLists.{found_unique}
use Rattle.witnesses.proofs.first_witness.Reads as first_reads
use Rattle.witnesses.proofs.first_witness.Kinds as first-kinds

pub first_witness_unique : (κs : Lfts 5) (a : Dens κs first-kinds.ps) (r r' : (res_t first-kinds.r κs).Denot) (s s' : AtExit (ended_of 5 first-kinds.ps first-kinds.r) κs)
    → first_reads.Pre κs a → first_reads.Post κs a r s → first_reads.Post κs a r' s' → r ≡ r'
first_witness_unique κs a r r' s s' w p q =
    let served = w.0 in
    let who = served.placed.who in
    let stands = served.placed.stands in
    found_unique r r' (p served.family served.lent who stands) (q served.family served.lent who stands)
