-- The contracts of the public functions allow one result each. Stated of the contracts themselves, as the check reads them. Assumes nothing.
use mathlib.Core.Path.{◌≡◌, sym, ◌∙◌}
use borrow.Fn.Kinds.{Dens, res_t, ended_of}
use contract.Lifetimes.{Lfts}
use denote.Triple.Clauses.{AtExit}
use Rattle.blocks.proofs.FirstLists.{passing_unique}
use Rattle.judging.proofs.cut_passes.Reads as passes-reads
use Rattle.judging.proofs.cut_passes.Kinds as passes-kinds
use Rattle.judging.proofs.none_spare.Reads as spare-reads
use Rattle.judging.proofs.none_spare.Kinds as spare-kinds

pub cut_passes_unique : (κs : Lfts 2) (a : Dens κs passes-kinds.ps) (r r' : (res_t passes-kinds.r κs).Denot) (s s' : AtExit (ended_of 2 passes-kinds.ps passes-kinds.r) κs)
    → passes-reads.Post κs a r s → passes-reads.Post κs a r' s' → r ≡ r'
cut_passes_unique κs a r r' s s' p q = passing_unique p q

pub none_spare_unique : (κs : Lfts 1) (a : Dens κs spare-kinds.ps) (r r' : (res_t spare-kinds.r κs).Denot) (s s' : AtExit (ended_of 1 spare-kinds.ps spare-kinds.r) κs)
    → spare-reads.Post κs a r s → spare-reads.Post κs a r' s' → r ≡ r'
none_spare_unique κs a r r' s s' p q = p ∙ sym q
