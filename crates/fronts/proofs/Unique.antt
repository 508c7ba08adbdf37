-- The contracts of `first_cut_from` and `first_cut_by_group` allow one result each, under what the functions ask. Stated of the contracts themselves, as the check reads them. Assumes nothing.
use mathlib.Core.Path.{◌≡◌}
use borrow.Fn.Kinds.{Dens, res_t, ended_of}
use contract.Lifetimes.{Lfts}
use denote.Triple.Clauses.{AtExit}
use Rattle.blocks.proofs.FirstLists.{best_unique, found_unique}
use Rattle.fronts.proofs.first_cut_from.Reads as reads
use Rattle.fronts.proofs.first_cut_from.Kinds as kinds
use Rattle.fronts.proofs.first_cut_by_group.Reads as group-Reads
use Rattle.fronts.proofs.first_cut_by_group.Kinds as group-kinds

pub first_cut_from_unique : (κs : Lfts 3) (a : Dens κs kinds.ps) (r r' : (res_t kinds.r κs).Denot) (s s' : AtExit (ended_of 3 kinds.ps kinds.r) κs)
    → reads.Pre κs a → reads.Post κs a r s → reads.Post κs a r' s' → r ≡ r'
first_cut_from_unique κs a r r' s s' pre p q = let g = pre.3 in (best_unique (p g.may g.prepares) (q g.may g.prepares)).1

pub first_cut_by_group_unique : (κs : Lfts 3) (a : Dens κs group-kinds.ps) (r r' : (res_t group-kinds.r κs).Denot) (s s' : AtExit (ended_of 3 group-kinds.ps group-kinds.r) κs)
    → group-Reads.Pre κs a → group-Reads.Post κs a r s → group-Reads.Post κs a r' s' → r ≡ r'
first_cut_by_group_unique κs a r r' s s' pre p q = let g = pre.5 in found_unique r r' (p g.may g.known) (q g.may g.known)
