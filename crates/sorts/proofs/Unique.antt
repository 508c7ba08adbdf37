-- Each public function's promise allows one result only, stated of the contract itself. Assumes nothing.
use mathlib.Core.Path.{◌≡◌, sym, ◌∙◌}
use borrow.Fn.Kinds.{Dens, res_t, ended_of}
use contract.Lifetimes.{Lfts}
use denote.Triple.Clauses.{AtExit}
use Rattle.sorts.proofs.untyped.Reads as untyped
use Rattle.sorts.proofs.untyped.Kinds as untyped-kinds
use Rattle.sorts.proofs.reaches.Reads as reaches
use Rattle.sorts.proofs.reaches.Kinds as reaches-kinds
use Rattle.sorts.proofs.typed.Reads as typed
use Rattle.sorts.proofs.typed.Kinds as typed-kinds
use Rattle.sorts.proofs.lower_of.Reads as lower_of
use Rattle.sorts.proofs.lower_of.Kinds as lower-of-kinds
use Rattle.sorts.proofs.upper_of.Reads as upper_of
use Rattle.sorts.proofs.upper_of.Kinds as upper-of-kinds

pub untyped_unique : (κs : Lfts 0) (a : Dens κs untyped-kinds.ps) (r r' : (res_t untyped-kinds.r κs).Denot) (s s' : AtExit (ended_of 0 untyped-kinds.ps untyped-kinds.r) κs)
    → untyped.Post κs a r s → untyped.Post κs a r' s' → r.word ≡ r'.word
untyped_unique κs a r r' s s' p q = p ∙ sym q

pub typed_unique : (κs : Lfts 0) (a : Dens κs typed-kinds.ps) (r r' : (res_t typed-kinds.r κs).Denot) (s s' : AtExit (ended_of 0 typed-kinds.ps typed-kinds.r) κs)
    → typed.Post κs a r s → typed.Post κs a r' s' → r.word ≡ r'.word
typed_unique κs a r r' s s' p q = p ∙ sym q

pub lower_of_unique : (κs : Lfts 0) (a : Dens κs lower-of-kinds.ps) (r r' : (res_t lower-of-kinds.r κs).Denot) (s s' : AtExit (ended_of 0 lower-of-kinds.ps lower-of-kinds.r) κs)
    → lower_of.Post κs a r s → lower_of.Post κs a r' s' → r ≡ r'
lower_of_unique κs a r r' s s' p q = p ∙ sym q

pub upper_of_unique : (κs : Lfts 0) (a : Dens κs upper-of-kinds.ps) (r r' : (res_t upper-of-kinds.r κs).Denot) (s s' : AtExit (ended_of 0 upper-of-kinds.ps upper-of-kinds.r) κs)
    → upper_of.Post κs a r s → upper_of.Post κs a r' s' → r ≡ r'
upper_of_unique κs a r r' s s' p q = p ∙ sym q

pub reaches_unique : (κs : Lfts 0) (a : Dens κs reaches-kinds.ps) (r r' : (res_t reaches-kinds.r κs).Denot) (s s' : AtExit (ended_of 0 reaches-kinds.ps reaches-kinds.r) κs)
    → reaches.Post κs a r s → reaches.Post κs a r' s' → r ≡ r'
reaches_unique κs a r r' s s' p q = p ∙ sym q
