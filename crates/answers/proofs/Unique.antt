-- Each public function's promise allows one result only, stated of the contract itself. Assumes nothing.
use mathlib.Core.Path.{◌≡◌, sym, ◌∙◌}
use borrow.Fn.Kinds.{Dens, res_t, ended_of}
use contract.Lifetimes.{Lfts}
use denote.Triple.Clauses.{AtExit}
use Rattle.forms.proofs.Unique.{answer_parts}
use Rattle.answers.proofs.refused.Reads as refused
use Rattle.answers.proofs.refused.Kinds as refused-kinds
use Rattle.answers.proofs.give.Reads as give
use Rattle.answers.proofs.give.Kinds as give-kinds
use Rattle.answers.proofs.give_set.Reads as give-set
use Rattle.answers.proofs.give_set.Kinds as give-set-kinds

pub refused_unique : (κs : Lfts 0) (a : Dens κs refused-kinds.ps) (r r' : (res_t refused-kinds.r κs).Denot) (s s' : AtExit (ended_of 0 refused-kinds.ps refused-kinds.r) κs)
    → refused.Post κs a r s → refused.Post κs a r' s' → (r.number ≡ r'.number) × (r.length ≡ r'.length)
refused_unique κs a r r' s s' p q = (p.0 ∙ sym q.0, p.1 ∙ sym q.1)

-- number, length and every byte of the room
pub give_unique : (κs : Lfts 3) (a : Dens κs give-kinds.ps) (r r' : (res_t give-kinds.r κs).Denot) (s s' : AtExit (ended_of 3 give-kinds.ps give-kinds.r) κs)
    → give.Post κs a r s → give.Post κs a r' s' → (r.number ≡ r'.number) × (r.length ≡ r'.length) × (s.0.now ≡ s'.0.now)
give_unique κs a r r' s s' p q = answer_parts _ _ _ _ _ _ _ p q

pub give_set_unique : (κs : Lfts 3) (a : Dens κs give-set-kinds.ps) (r r' : (res_t give-set-kinds.r κs).Denot) (s s' : AtExit (ended_of 3 give-set-kinds.ps give-set-kinds.r) κs)
    → give-set.Post κs a r s → give-set.Post κs a r' s' → (r.number ≡ r'.number) × (r.length ≡ r'.length) × (s.0.now ≡ s'.0.now)
give_set_unique κs a r r' s s' p q = answer_parts _ _ _ _ _ _ _ p q
