-- The public functions' promises allow one result only, stated of the contracts themselves; of `mark_members` the rows of the list's elements.
-- Assumes nothing.
use mathlib.Core.Path.{◌≡◌, sym, ◌∙◌}
use mathlib.Core.Bool.{true, false}
use mathlib.Core.Logic.{⊎_elim}
use mathlib.Core.List.{List}
use Prim.Native.Nat.{ℕ, ◌<◌}
use lib.IntN.{pos}
use Rattle.format.specs.declared.Family.{Family}
use Rattle.grammar.specs.Family.{ElementOf, list_of}
use lib.ListN.{length}
use lib.Seq.{ext_get_or}
use Rattle.facts.specs.Counting.{between}
use Rattle.facts.proofs.Cases.{holds?}
use Rattle.facts.proofs.Spans.{between_from, between_to}
use Rattle.rows.specs.Rows.{may}
use Rattle.member_rows.specs.Places.{MembersAt, MembersMarked}
use borrow.Fn.Kinds.{Dens, res_t, ended_of}
use contract.Lifetimes.{Lfts}
use denote.Triple.Clauses.{AtExit}
use Rattle.member_rows.proofs.Agreeing.{rows_same}
use Rattle.member_rows.proofs.rows_of.Reads as rows_of_lem
use Rattle.member_rows.proofs.widened.Reads as widened-reads
use Rattle.member_rows.proofs.widened.Kinds as widened-kinds
use Rattle.member_rows.proofs.mark_members.Reads as mark-members
use Rattle.member_rows.proofs.mark_members.Kinds as mark-members-kinds
use Rattle.member_rows.proofs.rows_of.Kinds as rows-of-kinds

pub rows_of_unique : (κs : Lfts 4) (a : Dens κs rows-of-kinds.ps) (r r' : (res_t rows-of-kinds.r κs).Denot) (s s' : AtExit (ended_of 4 rows-of-kinds.ps rows-of-kinds.r) κs)
    → rows_of_lem.Pre κs a → rows_of_lem.Post κs a r s → rows_of_lem.Post κs a r' s' → r ≡ r'
rows_of_unique κs a r r' s s' w p q =
    let who = w.placed.who in
    let stands = w.placed.stands in
    rows_same w.family who _ r r' (p w.family w.lent who stands) (q w.family w.lent who stands)

pub widened_unique : (κs : Lfts 1) (a : Dens κs widened-kinds.ps) (r r' : (res_t widened-kinds.r κs).Denot) (s s' : AtExit (ended_of 1 widened-kinds.ps widened-kinds.r) κs)
    → widened-reads.Post κs a r s → widened-reads.Post κs a r' s' → r ≡ r'
widened_unique κs a r r' s s' p q = ext_get_or (pos 0) r r' (p.size ∙ sym q.size) (λ e l. p.same e ∙ sym (q.same e))

-- the rows of the list's elements, in two ways
marked_same : {fam : Family} {before t places : List ℕ} {first end : ℕ} {xs : List (ElementOf fam)} {rows rows' : List ℕ} → MembersAt fam t places end → MembersMarked fam before t places first end xs rows
    → MembersMarked fam before t places first end xs rows' → (m e : ℕ) → e < length xs → may rows m e ≡ may rows' m e
marked_same {first = first} {end = end} w p q m e l = ⊎_elim
    (λ (b : between first end m ≡ true).
    let low = between_from first end m b in
    let high = between_to first end m b in
    p.self w.who w.stands m e low high l ∙ sym (q.self w.who w.stands m e low high l))
    (λ (b : between first end m ≡ false). p.other m e b ∙ sym (q.other m e b))
    (holds? (between first end m))

pub mark_members_unique : (κs : Lfts 6) (a : Dens κs mark-members-kinds.ps) (r r' : (res_t mark-members-kinds.r κs).Denot) (s s' : AtExit (ended_of 6 mark-members-kinds.ps mark-members-kinds.r) κs)
    → (w : mark-members.Pre κs a) → mark-members.Post κs a r s → mark-members.Post κs a r' s'
    → (m e : ℕ) → e < length (list_of w.1.family a.1.1.1.1.1.0.now a.1.1.1.1.1.1.0.now) → may s.0.now m e ≡ may s'.0.now m e
mark_members_unique κs a r r' s s' w p q = let served = w.1 in marked_same served.placed (p served.family served.lent) (q served.family served.lent)
