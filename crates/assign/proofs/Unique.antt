-- The contracts of `first_assignment` and of `splice` allow one result each. Stated of the contracts themselves, as the check reads them. Assumes nothing.
use mathlib.Core.Path.{◌≡◌}
use borrow.Fn.Kinds.{Dens, res_t, ended_of}
use contract.Lifetimes.{Lfts}
use denote.Triple.Clauses.{AtExit}
use Rattle.blocks.proofs.FirstLists.{found_same}
use Rattle.assign.proofs.Answers.{answer_unique}
use Rattle.assign.proofs.Splices.{spliced_same}
use Rattle.assign.proofs.splice.Reads as splice-reads
use Rattle.assign.proofs.splice.Kinds as splice-kinds
use Rattle.assign.proofs.first_assignment.Reads as reads
use Rattle.assign.proofs.first_assignment.Kinds as kinds

pub first_assignment_unique : (κs : Lfts 1) (a : Dens κs kinds.ps) (r r' : (res_t kinds.r κs).Denot) (s s' : AtExit (ended_of 1 kinds.ps kinds.r) κs)
    → reads.Post κs a r s → reads.Post κs a r' s' → r ≡ r'
first_assignment_unique κs a r r' s s' p q =
    let u = answer_unique p q in
    found_same r r' u.0 u.1

pub splice_unique : (κs : Lfts 0) (a : Dens κs splice-kinds.ps) (r r' : (res_t splice-kinds.r κs).Denot) (s s' : AtExit (ended_of 0 splice-kinds.ps splice-kinds.r) κs)
    → splice-reads.Post κs a r s → splice-reads.Post κs a r' s' → r ≡ r'
splice_unique κs a r r' s s' p q = spliced_same r r' p q
