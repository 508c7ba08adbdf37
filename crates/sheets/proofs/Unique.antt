-- The contracts of `first_containment` and of `containment_passes` allow one result each. Stated of the contracts themselves, as the check reads them. Assumes nothing.
use mathlib.Core.Path.{◌≡◌}
use borrow.Fn.Kinds.{Dens, res_t, ended_of}
use contract.Lifetimes.{Lfts}
use denote.Triple.Clauses.{AtExit}
use Rattle.blocks.proofs.FirstLists.{found_unique, passing_unique}
use Rattle.sheets.proofs.first_containment.Reads as containment-reads
use Rattle.sheets.proofs.first_containment.Kinds as containment-kinds
use Rattle.sheets.proofs.containment_passes.Reads as passes-reads
use Rattle.sheets.proofs.containment_passes.Kinds as passes-kinds

pub first_containment_unique : (κs : Lfts 1) (a : Dens κs containment-kinds.ps) (r r' : (res_t containment-kinds.r κs).Denot) (s s' : AtExit (ended_of 1 containment-kinds.ps containment-kinds.r) κs)
    → containment-reads.Post κs a r s → containment-reads.Post κs a r' s' → r ≡ r'
first_containment_unique κs a r r' s s' p q = found_unique r r' p q

pub containment_passes_unique : (κs : Lfts 5) (a : Dens κs passes-kinds.ps) (r r' : (res_t passes-kinds.r κs).Denot) (s s' : AtExit (ended_of 5 passes-kinds.ps passes-kinds.r) κs)
    → passes-reads.Pre κs a → passes-reads.Post κs a r s → passes-reads.Post κs a r' s' → r ≡ r'
containment_passes_unique κs a r r' s s' w p q =
    let served = w.0 in
    let who = served.placed.who in
    let stands = served.placed.stands in
    passing_unique (p served.family served.lent who stands) (q served.family served.lent who stands)
