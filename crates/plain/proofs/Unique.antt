-- The public functions' promises allow one result only, stated of the contracts themselves. Assumes nothing.
use mathlib.Core.Path.{◌≡◌}
use borrow.Fn.Kinds.{Dens, res_t, ended_of}
use contract.Lifetimes.{Lfts}
use denote.Triple.Clauses.{AtExit}
use Rattle.blocks.proofs.FirstLists.{passing_unique}
use Rattle.plain.proofs.is_plain.Reads as is-plain-reads
use Rattle.plain.proofs.is_plain.Kinds as is-plain-kinds
use Rattle.plain.proofs.counts_up.Reads as counts-up-reads
use Rattle.plain.proofs.counts_up.Kinds as counts-up-kinds

pub is_plain_unique : (κs : Lfts 1) (a : Dens κs is-plain-kinds.ps) (r r' : (res_t is-plain-kinds.r κs).Denot) (s s' : AtExit (ended_of 1 is-plain-kinds.ps is-plain-kinds.r) κs)
    → is-plain-reads.Post κs a r s → is-plain-reads.Post κs a r' s' → r ≡ r'
is_plain_unique κs a r r' s s' p q = passing_unique p q

pub counts_up_unique : (κs : Lfts 1) (a : Dens κs counts-up-kinds.ps) (r r' : (res_t counts-up-kinds.r κs).Denot) (s s' : AtExit (ended_of 1 counts-up-kinds.ps counts-up-kinds.r) κs)
    → counts-up-reads.Post κs a r s → counts-up-reads.Post κs a r' s' → r ≡ r'
counts_up_unique κs a r r' s s' p q = passing_unique p q
