-- Each public function's promise allows one result only, stated of the contract itself. Assumes nothing.
use mathlib.Core.Path.{◌≡◌, refl, sym, ap, ◌∙◌}
use mathlib.Core.Bool.{Bool, true, false}
use mathlib.Core.List.{List}
use Prim.Native.Nat.{ℕ}
use native.Mathlib.Omega.{arith}
use lib.ListN.{drop}
use borrow.Fn.Kinds.{Dens, res_t, ended_of}
use contract.Lifetimes.{Lfts}
use denote.Triple.Clauses.{AtExit}
use Rattle.facts.proofs.Slices.{same_place}
use Rattle.format.specs.declared.Family.{Family}
use Rattle.grammar.specs.Read.{Read}
use Rattle.grammar.specs.Template.{is_plain, Heads as HeadsRead}
use Rattle.sorts.specs.Sorts.{word_of}
use Rattle.heads.specs.Fronts.{sheet_for, length_of, Bounds, refused_heads, HeadsAt, heads_fault, heads_read}
use Rattle.heads.specs.declared.Heads.{Heads}
use Rattle.heads.proofs.heads_of.Reads as heads-of
use Rattle.heads.proofs.heads_of.Kinds as heads-of-kinds
use Rattle.heads.proofs.body_fault.Reads as body-fault
use Rattle.heads.proofs.body_fault.Kinds as body-fault-kinds

-- every field
pub record SameHeads (h h' : Heads) : Type 0 where
  pub code : h.code ≡ h'.code
  pub next : h.next ≡ h'.next
  pub plain : h.plain ≡ h'.plain
  pub given : h.given ≡ h'.given
  pub min : h.min ≡ h'.min
  pub max : h.max ≡ h'.max
  pub sort : h.sort.word ≡ h'.sort.word

-- one sheet is said in one way, and so is one length attribute
one_sheet : (p q : Bool) → sheet_for p ≡ sheet_for q → p ≡ q
one_sheet true true e = refl
one_sheet true false e = ap is_plain e
one_sheet false true e = ap is_plain e
one_sheet false false e = refl

one_length : (g g' : Bool) (m x m' x' : ℕ) → length_of g m x ≡ length_of g' m' x' → Bounds g m x → Bounds g' m' x' → (g ≡ g') × (m ≡ m') × (x ≡ x')
one_length true true m x m' x' e b b' = (refl, cc, cc)
one_length true false m x m' x' e b b' = let z : ◌≡◌ {A = ℕ} 0 1 = cc in absurd (omega arith)
one_length false true m x m' x' e b b' = let z : ◌≡◌ {A = ℕ} 0 1 = cc in absurd (omega arith)
one_length false false m x m' x' e b b' = (refl, sym b.lower ∙ b'.lower, sym b.upper ∙ b'.upper)

same_fields : (h h' : Heads) → h ≡ h' → SameHeads h h'
same_fields h h' e = record {
  code = ap (λ (x : Heads). x.code) e;
  next = ap (λ (x : Heads). x.next) e;
  plain = ap (λ (x : Heads). x.plain) e;
  given = ap (λ (x : Heads). x.given) e;
  min = ap (λ (x : Heads). x.min) e;
  max = ap (λ (x : Heads). x.max) e;
  sort = ap (λ (x : Heads). x.sort.word) e;
}

heads_same : (fam : Family) (t : List ℕ) (o : Read HeadsRead) (h h' : Heads) → HeadsAt fam t o h → HeadsAt fam t o h' → SameHeads h h'
heads_same fam t o h h' (heads_fault code q l e) (heads_fault code' q' l' e') = let c : code ≡ code' = cc in same_fields h h' (e ∙ ap refused_heads c ∙ sym e')
heads_same fam t o h h' (heads_fault code q l e) (heads_read a q' z i s) = let c : ◌≡◌ {A = ℕ} 0 1 = cc in absurd (omega arith)
heads_same fam t o h h' (heads_read a q z i s) (heads_fault code q' l e) = let c : ◌≡◌ {A = ℕ} 0 1 = cc in absurd (omega arith)
heads_same fam t o h h' (heads_read a q z i s) (heads_read a' q' z' i' s') =
    let c : a ≡ a' = cc in
    let d : drop h.next t ≡ drop h'.next t = cc in
    let l = one_length h.given h'.given _ _ _ _ (sym s.attribute ∙ ap (λ (x : HeadsRead). x.length) c ∙ s'.attribute) s.bounds s'.bounds in
    record {
      code = z ∙ sym z';
      next = same_place t h.next h'.next i i' d;
      plain = one_sheet h.plain h'.plain (sym s.sheet ∙ ap (λ (x : HeadsRead). x.sheet) c ∙ s'.sheet);
      given = l.0;
      min = l.1;
      max = l.2;
      sort = s.sort ∙ ap (λ (x : HeadsRead). word_of fam x.lower x.upper) c ∙ sym s'.sort;
    }

pub heads_of_unique : (κs : Lfts 1) (a : Dens κs heads-of-kinds.ps) (r r' : (res_t heads-of-kinds.r κs).Denot) (s s' : AtExit (ended_of 1 heads-of-kinds.ps heads-of-kinds.r) κs)
    → heads-of.Post κs a r s → heads-of.Post κs a r' s' → SameHeads r r'
heads_of_unique κs a r r' s s' p q = heads_same _ _ _ r r' p q

pub body_fault_unique : (κs : Lfts 1) (a : Dens κs body-fault-kinds.ps) (r r' : (res_t body-fault-kinds.r κs).Denot) (s s' : AtExit (ended_of 1 body-fault-kinds.ps body-fault-kinds.r) κs)
    → body-fault.Post κs a r s → body-fault.Post κs a r' s' → r ≡ r'
body_fault_unique κs a r r' s s' p q = p ∙ sym q
