-- The contracts of the public functions allow one result each. Stated of the contracts themselves, as the check reads them. Assumes nothing.
use mathlib.Core.Path.{◌≡◌, sym, ◌∙◌}
use mathlib.Core.Logic.{⊎_elim}
use mathlib.Core.List.{List}
use Prim.Native.Nat.{ℕ, ◌-◌, ◌≤◌, ◌<◌}
use native.Mathlib.Omega.{arith}
use borrow.Fn.Kinds.{Dens, res_t, ended_of}
use contract.Lifetimes.{Lfts}
use denote.Triple.Clauses.{AtExit}
use Rattle.masks.specs.Masks.{bit}
use Rattle.facts.proofs.Cases.{below, same_test}
use Rattle.masks.proofs.Masks.{bits_same}
use Rattle.places.specs.Bytes.{AfterLast}
use Rattle.places.proofs.before_one.Reads as before-one-reads
use Rattle.places.proofs.before_one.Kinds as before-one-kinds
use Rattle.places.proofs.after_last.Reads as after-last-reads
use Rattle.places.proofs.after_last.Kinds as after-last-kinds
use Rattle.places.proofs.before_group.Reads as before-group-reads
use Rattle.places.proofs.before_group.Kinds as before-group-kinds

last_le : {w : List ℕ} {from to r s : ℕ} → AfterLast w from to r → AfterLast w from to s → r ≤ s
last_le {w} {from} {to} {r} {s} p q =
    let a = p.high in
    let b = q.low in
    ⊎_elim (λ (l : s < r). absurd (p.last (omega arith) (q.blank (r - 1) (omega arith) (omega arith)))) (λ (l : r ≤ s). l) (below s r)

pub last_same : {w : List ℕ} {from to r s : ℕ} → AfterLast w from to r → AfterLast w from to s → r ≡ s
last_same p q = let a = last_le p q in let b = last_le q p in omega arith

pub before_one_unique : (κs : Lfts 0) (a : Dens κs before-one-kinds.ps) (r r' : (res_t before-one-kinds.r κs).Denot) (s s' : AtExit (ended_of 0 before-one-kinds.ps before-one-kinds.r) κs)
    → before-one-reads.Post κs a r s → before-one-reads.Post κs a r' s' → r ≡ r'
before_one_unique κs a r r' s s' p q = bits_same r r' (λ e. p e ∙ sym (q e))

pub after_last_unique : (κs : Lfts 1) (a : Dens κs after-last-kinds.ps) (r r' : (res_t after-last-kinds.r κs).Denot) (s s' : AtExit (ended_of 1 after-last-kinds.ps after-last-kinds.r) κs)
    → after-last-reads.Post κs a r s → after-last-reads.Post κs a r' s' → r ≡ r'
after_last_unique κs a r r' s s' p q = last_same p q

pub before_group_unique : (κs : Lfts 1) (a : Dens κs before-group-kinds.ps) (r r' : (res_t before-group-kinds.r κs).Denot) (s s' : AtExit (ended_of 1 before-group-kinds.ps before-group-kinds.r) κs)
    → before-group-reads.Post κs a r s → before-group-reads.Post κs a r' s' → r ≡ r'
before_group_unique κs a r r' s s' p q = bits_same r r' (λ e. same_test (bit r e) (bit r' e) (λ h. q.all e (p.some e h)) (λ h. p.all e (q.some e h)))
