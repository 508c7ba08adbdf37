-- The contract of `first_filling` allows one result. Stated of the contract itself, as the check reads it. Assumes nothing.
use mathlib.Core.Path.{◌≡◌}
use borrow.Fn.Kinds.{Dens, res_t, ended_of}
use contract.Lifetimes.{Lfts}
use denote.Triple.Clauses.{AtExit}
use Rattle.blocks.proofs.FirstLists.{found_unique}
use Rattle.fillings.proofs.first_filling.Reads as filling-reads
use Rattle.fillings.proofs.first_filling.Kinds as filling-kinds

pub first_filling_unique : (κs : Lfts 1) (a : Dens κs filling-kinds.ps) (r r' : (res_t filling-kinds.r κs).Denot) (s s' : AtExit (ended_of 1 filling-kinds.ps filling-kinds.r) κs)
    → filling-reads.Post κs a r s → filling-reads.Post κs a r' s' → r ≡ r'
first_filling_unique κs a r r' s s' p q = found_unique r r' p q
