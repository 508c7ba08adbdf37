-- The public functions' promises allow one result only, stated of the contracts themselves. Assumes nothing.
use mathlib.Core.Path.{◌≡◌, sym, ◌∙◌}
use borrow.Fn.Kinds.{Dens, res_t, ended_of}
use contract.Lifetimes.{Lfts}
use denote.Triple.Clauses.{AtExit}
use Rattle.masks.proofs.Masks.{bits_same}
use Rattle.format.specs.declared.Family.{Family}
use Rattle.element_match.proofs.Walks.{leaf_whole}
use Rattle.element_match.proofs.hits.Reads as hits-reads
use Rattle.element_match.proofs.hits.Kinds as hits-kinds
use Rattle.element_match.proofs.hit.Reads as hit-reads
use Rattle.element_match.proofs.hit.Kinds as hit-kinds
use Rattle.element_match.proofs.leaf_hit.Reads as leaf-hit-reads
use Rattle.element_match.proofs.leaf_hit.Kinds as leaf-hit-kinds
use Rattle.element_match.proofs.float_hit.Reads as float-hit-reads
use Rattle.element_match.proofs.float_hit.Kinds as float-hit-kinds

pub hits_unique : (κs : Lfts 3) (a : Dens κs hits-kinds.ps) (r r' : (res_t hits-kinds.r κs).Denot) (s s' : AtExit (ended_of 3 hits-kinds.ps hits-kinds.r) κs)
    → hits-reads.Pre κs a → hits-reads.Post κs a r s → hits-reads.Post κs a r' s' → r ≡ r'
hits_unique κs a r r' s s' w p q =
    let here = w.here in
    let u = (p w.family).right here.what here.leaves here.rest here.reads in
    let v = (q w.family).right here.what here.leaves here.rest here.reads in
    bits_same r r' (λ j. u.told j ∙ sym (v.told j))

pub hit_unique : (κs : Lfts 3) (a : Dens κs hit-kinds.ps) (r r' : (res_t hit-kinds.r κs).Denot) (s s' : AtExit (ended_of 3 hit-kinds.ps hit-kinds.r) κs)
    → hit-reads.Pre κs a → hit-reads.Post κs a r s → hit-reads.Post κs a r' s' → r ≡ r'
hit_unique κs a r r' s s' w p q =
    let here = w.here in
    (p w.family).right here.what here.leaves here.rest here.reads ∙ sym ((q w.family).right here.what here.leaves here.rest here.reads)

pub leaf_hit_unique : (κs : Lfts 1) (a : Dens κs leaf-hit-kinds.ps) (r r' : (res_t leaf-hit-kinds.r κs).Denot) (s s' : AtExit (ended_of 1 leaf-hit-kinds.ps leaf-hit-kinds.r) κs)
    → leaf-hit-reads.Pre κs a → leaf-hit-reads.Post κs a r s → leaf-hit-reads.Post κs a r' s' → r ≡ r'
leaf_hit_unique κs a r r' s s' w p q =
    let whole = leaf_whole Family.Integers _ w.what w.rest w.reads in
    p.right _ _ _ whole ∙ sym (q.right _ _ _ whole)

pub float_hit_unique : (κs : Lfts 1) (a : Dens κs float-hit-kinds.ps) (r r' : (res_t float-hit-kinds.r κs).Denot) (s s' : AtExit (ended_of 1 float-hit-kinds.ps float-hit-kinds.r) κs)
    → float-hit-reads.Pre κs a → float-hit-reads.Post κs a r s → float-hit-reads.Post κs a r' s' → r ≡ r'
float_hit_unique κs a r r' s s' w p q =
    let whole = leaf_whole Family.Floats _ w.what w.rest w.reads in
    p.right _ _ _ whole ∙ sym (q.right _ _ _ whole)
