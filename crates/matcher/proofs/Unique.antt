-- Each public function's promise allows one result only, every byte of the room included, stated of the contract itself. Assumes nothing.
use mathlib.Core.Path.{◌≡◌, sym, ◌∙◌}
use mathlib.Core.List.{List}
use Prim.Native.Nat.{ℕ}
use borrow.Fn.Kinds.{Dens, res_t, ended_of}
use contract.Lifetimes.{Lfts}
use denote.Triple.Clauses.{AtExit}
use Rattle.matching.specs.Answer.{Given, given}
use Rattle.matcher.proofs.length_met.Reads as length-met
use Rattle.matcher.proofs.length_met.Kinds as length-met-kinds
use Rattle.matcher.proofs.refusal_by.Reads as refusal-by
use Rattle.matcher.proofs.refusal_by.Kinds as refusal-by-kinds
use Rattle.matcher.proofs.match_planned.Reads as match-planned
use Rattle.matcher.proofs.match_planned.Kinds as match-planned-kinds
use Rattle.matcher.proofs.judge_planned.Reads as judge-planned
use Rattle.matcher.proofs.judge_planned.Kinds as judge-planned-kinds
use Rattle.matcher.proofs.match_list.Reads as match-list
use Rattle.matcher.proofs.match_list.Kinds as match-list-kinds
use Rattle.matcher.proofs.match_floats.Reads as match-floats
use Rattle.matcher.proofs.match_floats.Kinds as match-floats-kinds
use Rattle.matcher.proofs.judge.Reads as judge
use Rattle.matcher.proofs.judge.Kinds as judge-kinds
use Rattle.matcher.proofs.judge_floats.Reads as judge-floats
use Rattle.matcher.proofs.judge_floats.Kinds as judge-floats-kinds

pub one_given : (g : Given) (r r' : ℕ) (a a' : List ℕ) → given r a ≡ g → given r' a' ≡ g → (r ≡ r') × (a ≡ a')
one_given g r r' a a' p q = (cc, cc)

pub match_planned_unique : (κs : Lfts 4) (a : Dens κs match-planned-kinds.ps) (r r' : (res_t match-planned-kinds.r κs).Denot) (s s' : AtExit (ended_of 4 match-planned-kinds.ps match-planned-kinds.r) κs)
    → match-planned.Pre κs a → match-planned.Post κs a r s → match-planned.Post κs a r' s' → (r ≡ r') × (s.1.1.1.1.0.now ≡ s'.1.1.1.1.0.now)
match_planned_unique κs a r r' s s' w p q = one_given _ r r' _ _ (p w.family w.plan w.lent) (q w.family w.plan w.lent)

pub judge_planned_unique : (κs : Lfts 4) (a : Dens κs judge-planned-kinds.ps) (r r' : (res_t judge-planned-kinds.r κs).Denot) (s s' : AtExit (ended_of 4 judge-planned-kinds.ps judge-planned-kinds.r) κs)
    → judge-planned.Pre κs a → judge-planned.Post κs a r s → judge-planned.Post κs a r' s' → r ≡ r'
judge_planned_unique κs a r r' s s' w p q = p w.family w.plan w.lent ∙ sym (q w.family w.plan w.lent)

pub match_list_unique : (κs : Lfts 3) (a : Dens κs match-list-kinds.ps) (r r' : (res_t match-list-kinds.r κs).Denot) (s s' : AtExit (ended_of 3 match-list-kinds.ps match-list-kinds.r) κs)
    → match-list.Post κs a r s → match-list.Post κs a r' s' → (r ≡ r') × (s.1.1.0.now ≡ s'.1.1.0.now)
match_list_unique κs a r r' s s' p q = one_given _ r r' _ _ p q

pub match_floats_unique : (κs : Lfts 3) (a : Dens κs match-floats-kinds.ps) (r r' : (res_t match-floats-kinds.r κs).Denot) (s s' : AtExit (ended_of 3 match-floats-kinds.ps match-floats-kinds.r) κs)
    → match-floats.Post κs a r s → match-floats.Post κs a r' s' → (r ≡ r') × (s.1.1.0.now ≡ s'.1.1.0.now)
match_floats_unique κs a r r' s s' p q = one_given _ r r' _ _ p q

pub judge_unique : (κs : Lfts 3) (a : Dens κs judge-kinds.ps) (r r' : (res_t judge-kinds.r κs).Denot) (s s' : AtExit (ended_of 3 judge-kinds.ps judge-kinds.r) κs)
    → judge.Post κs a r s → judge.Post κs a r' s' → r ≡ r'
judge_unique κs a r r' s s' p q = p ∙ sym q

pub judge_floats_unique : (κs : Lfts 3) (a : Dens κs judge-floats-kinds.ps) (r r' : (res_t judge-floats-kinds.r κs).Denot) (s s' : AtExit (ended_of 3 judge-floats-kinds.ps judge-floats-kinds.r) κs)
    → judge-floats.Post κs a r s → judge-floats.Post κs a r' s' → r ≡ r'
judge_floats_unique κs a r r' s s' p q = p ∙ sym q

pub length_met_unique : (κs : Lfts 0) (a : Dens κs length-met-kinds.ps) (r r' : (res_t length-met-kinds.r κs).Denot) (s s' : AtExit (ended_of 0 length-met-kinds.ps length-met-kinds.r) κs)
    → length-met.Post κs a r s → length-met.Post κs a r' s' → r ≡ r'
length_met_unique κs a r r' s s' p q = p ∙ sym q

pub refusal_by_unique : (κs : Lfts 1) (a : Dens κs refusal-by-kinds.ps) (r r' : (res_t refusal-by-kinds.r κs).Denot) (s s' : AtExit (ended_of 1 refusal-by-kinds.ps refusal-by-kinds.r) κs)
    → refusal-by.Post κs a r s → refusal-by.Post κs a r' s' → r ≡ r'
refusal_by_unique κs a r r' s s' p q = p ∙ sym q
