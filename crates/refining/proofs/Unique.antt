-- The contract of `refine` allows one result. Stated of the contract itself, as the check reads it. Assumes nothing.
use mathlib.Core.Path.{◌≡◌, sym, ◌∙◌}
use mathlib.Core.Logic.{⊎_elim}
use mathlib.Core.Bool.{Bool}
use mathlib.Core.List.{List}
use Prim.Native.Nat.{ℕ, ◌≤◌, ◌<◌}
use native.Mathlib.Omega.{arith}
use lib.Seq.{ext_get_or}
use borrow.Fn.Kinds.{Dens, res_t, ended_of}
use contract.Lifetimes.{Lfts}
use denote.Triple.Clauses.{AtExit}
use Rattle.facts.proofs.Cases.{below}
use Rattle.facts.proofs.Spans.{between_past}
use Rattle.refining.specs.Refine.{Agrees, Sooner, Leads}
use Rattle.refining.proofs.Refinement.{dealt_outside}
use Rattle.refining.proofs.refine.Reads as reads
use Rattle.refining.proofs.refine.Kinds as kinds

-- neither of two that come first comes sooner than the other
agrees : {may : ℕ → ℕ → Bool} {first k from to : ℕ} {w v : List ℕ} → Leads may first k from to w to → Leads may first k from to v to → Agrees v w to
agrees {may} {first} {k} {from} {to} {w} {v} p q = ⊎_elim
    (λ (a : Agrees v w to). a)
    (λ (s : Sooner w v to). ⊎_elim
    (λ (a : Agrees w v to) i l. sym (a i l))
    (λ (u : Sooner v w to). absurd (⊎_elim
    (λ (l : s.place < u.place). let x = s.smaller in let y = u.agrees s.place l in omega arith)
    (λ (l : u.place ≤ s.place). ⊎_elim
    (λ (n : u.place < s.place). let x = u.smaller in let y = s.agrees u.place n in omega arith)
    (λ (n : s.place ≤ u.place). let e : u.place ≡ s.place = omega arith in let x = s.smaller in let y = rw e at u.smaller in omega arith)
    (below u.place s.place))
    (below s.place u.place)))
    (q.leads w p.dealt))
    (p.leads v q.dealt)

leads_same : {may : ℕ → ℕ → Bool} {first k from to : ℕ} (w v : List ℕ) → Leads may first k from to w to → Leads may first k from to v to → w ≡ v
leads_same {may} {first} {k} {from} {to} w v p q = ext_get_or 0 w v (p.dealt.size ∙ sym q.dealt.size) (λ i l. ⊎_elim
    (λ (h : i < to). sym (agrees p q i h))
    (λ (h : to ≤ i).
    let n = p.dealt.size in
    dealt_outside p.dealt i (omega arith) (between_past from to i h) ∙ sym (dealt_outside q.dealt i (omega arith) (between_past from to i h)))
    (below i to))

pub refine_unique : (κs : Lfts 2) (a : Dens κs kinds.ps) (r r' : (res_t kinds.r κs).Denot) (s s' : AtExit (ended_of 2 kinds.ps kinds.r) κs) → reads.Post κs a r s → reads.Post κs a r' s' → r ≡ r'
refine_unique κs a r r' s s' p q = leads_same r r' p q
