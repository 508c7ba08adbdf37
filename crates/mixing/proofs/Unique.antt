-- The promises of the public functions allow one result only: one count, and one list of ranges. What lies in the arrays after the ranges is no part of a set
-- and is left free. Stated of the very contracts. Assumes nothing.
use mathlib.Core.Path.{◌≡◌}
use borrow.Fn.Kinds.{Dens, res_t, ended_of}
use contract.Lifetimes.{Lfts}
use denote.Triple.Clauses.{AtExit}
use Rattle.ranges.specs.Shown.{view}
use Rattle.ranges.proofs.Unique.{became_same}
use Rattle.mixing.proofs.gaps_unless.Reads as gaps-unless
use Rattle.mixing.proofs.gaps_unless.Kinds as gaps-unless-kinds
use Rattle.mixing.proofs.not_in_both.Reads as not-in-both
use Rattle.mixing.proofs.not_in_both.Kinds as not-in-both-kinds

pub gaps_unless_unique : (κs : Lfts 2) (a : Dens κs gaps-unless-kinds.ps) (r r' : (res_t gaps-unless-kinds.r κs).Denot) (s s' : AtExit (ended_of 2 gaps-unless-kinds.ps gaps-unless-kinds.r) κs)
    → gaps-unless.Post κs a r s → gaps-unless.Post κs a r' s' → (r ≡ r') × (view r s.1.0.now s.1.1.0.now ≡ view r' s'.1.0.now s'.1.1.0.now)
gaps_unless_unique κs a r r' s s' p q = became_same _ _ _ _ _ _ _ _ _ p q

pub not_in_both_unique : (κs : Lfts 6) (a : Dens κs not-in-both-kinds.ps) (r r' : (res_t not-in-both-kinds.r κs).Denot) (s s' : AtExit (ended_of 6 not-in-both-kinds.ps not-in-both-kinds.r) κs)
    → not-in-both.Post κs a r s → not-in-both.Post κs a r' s' → (r ≡ r') × (view r s.1.1.1.1.1.1.0.now s.1.1.1.1.1.1.1.0.now ≡ view r' s'.1.1.1.1.1.1.0.now s'.1.1.1.1.1.1.1.0.now)
not_in_both_unique κs a r r' s s' p q = became_same _ _ _ _ _ _ _ _ _ p.1 q.1
