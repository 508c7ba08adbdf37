-- Each public function's promise allows one result only, stated of the contract itself. Assumes nothing.
use mathlib.Core.Path.{◌≡◌, sym, ◌∙◌}
use borrow.Fn.Kinds.{Dens, res_t, ended_of}
use contract.Lifetimes.{Lfts}
use denote.Triple.Clauses.{AtExit}
use Rattle.floats.proofs.bounds_fault.Reads as bounds-fault
use Rattle.floats.proofs.bounds_fault.Kinds as bounds-fault-kinds
use Rattle.floats.proofs.float_at.Reads as Float-at
use Rattle.floats.proofs.float_at.Kinds as float-at-kinds
use Rattle.floats.proofs.leaf_hit.Reads as leaf-hit
use Rattle.floats.proofs.leaf_hit.Kinds as leaf-hit-kinds
use Rattle.floats.proofs.one_fault.Reads as one-fault
use Rattle.floats.proofs.one_fault.Kinds as one-fault-kinds

pub float_at_unique : (κs : Lfts 1) (a : Dens κs float-at-kinds.ps) (r r' : (res_t float-at-kinds.r κs).Denot) (s s' : AtExit (ended_of 1 float-at-kinds.ps float-at-kinds.r) κs)
    → Float-at.Post κs a r s → Float-at.Post κs a r' s' → r ≡ r'
float_at_unique κs a r r' s s' p q = p ∙ sym q

pub one_fault_unique : (κs : Lfts 0) (a : Dens κs one-fault-kinds.ps) (r r' : (res_t one-fault-kinds.r κs).Denot) (s s' : AtExit (ended_of 0 one-fault-kinds.ps one-fault-kinds.r) κs)
    → one-fault.Post κs a r s → one-fault.Post κs a r' s' → r ≡ r'
one_fault_unique κs a r r' s s' p q = p ∙ sym q

pub bounds_fault_unique : (κs : Lfts 0) (a : Dens κs bounds-fault-kinds.ps) (r r' : (res_t bounds-fault-kinds.r κs).Denot) (s s' : AtExit (ended_of 0 bounds-fault-kinds.ps bounds-fault-kinds.r) κs)
    → bounds-fault.Post κs a r s → bounds-fault.Post κs a r' s' → r ≡ r'
bounds_fault_unique κs a r r' s s' p q = p ∙ sym q

pub leaf_hit_unique : (κs : Lfts 0) (a : Dens κs leaf-hit-kinds.ps) (r r' : (res_t leaf-hit-kinds.r κs).Denot) (s s' : AtExit (ended_of 0 leaf-hit-kinds.ps leaf-hit-kinds.r) κs)
    → leaf-hit.Post κs a r s → leaf-hit.Post κs a r' s' → r ≡ r'
leaf_hit_unique κs a r r' s s' p q = p ∙ sym q
