-- The promise of `bad_bounds` allows one result, stated of the contract itself. Assumes nothing.
use mathlib.Core.Path.{◌≡◌, sym, ◌∙◌}
use borrow.Fn.Kinds.{Dens, res_t, ended_of}
use contract.Lifetimes.{Lfts}
use denote.Triple.Clauses.{AtExit}
use Rattle.format.proofs.bad_bounds.Reads as bad-bounds
use Rattle.format.proofs.bad_bounds.Kinds as bad-bounds-kinds

pub bad_bounds_unique : (κs : Lfts 0) (a : Dens κs bad-bounds-kinds.ps) (r r' : (res_t bad-bounds-kinds.r κs).Denot) (s s' : AtExit (ended_of 0 bad-bounds-kinds.ps bad-bounds-kinds.r) κs)
    → bad-bounds.Post κs a r s → bad-bounds.Post κs a r' s' → r ≡ r'
bad_bounds_unique κs a r r' s s' p q = p ∙ sym q
