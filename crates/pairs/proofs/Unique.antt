-- The public function's promise allows one result only, stated of the contract itself. Assumes nothing.
use mathlib.Core.Path.{◌≡◌, sym, ◌∙◌}
use mathlib.Core.Bool.{true, false}
use mathlib.Core.List.{List}
use mathlib.Core.Logic.{⊎_elim}
use Prim.Native.Nat.{ℕ}
use borrow.Fn.Kinds.{Dens, res_t, ended_of}
use contract.Lifetimes.{Lfts}
use denote.Triple.Clauses.{AtExit}
use Rattle.facts.proofs.Cases.{holds?, clash}
use Rattle.grammar.specs.Element.{Elem}
use Rattle.format.specs.declared.Family.{Family}
use Rattle.grammar.specs.Family.{LeafOf, ElementOf}
use Rattle.masks.specs.Masks.{bit}
use Rattle.masks.proofs.Masks.{bits_same}
use Rattle.pairs.specs.Pairs.{Left, Paired, right, wrong}
use Rattle.pairs.proofs.left_over.Reads as left-over-reads
use Rattle.pairs.proofs.left_over.Kinds as left-over-kinds

one_way : (k : ℕ) (w : List ℕ) (a b m : ℕ) → Left k w a → Left k w b → bit a m ≡ true → bit b m ≡ true
one_way k w a b m p q h = let o = p.only m h in q.all m o.0 o.1

left_same : (k : ℕ) (w : List ℕ) (a b : ℕ) → Left k w a → Left k w b → a ≡ b
left_same k w a b p q = bits_same a b (λ m. ⊎_elim
    (λ (h : bit a m ≡ true). h ∙ sym (one_way k w a b m p q h))
    (λ (h : bit a m ≡ false). ⊎_elim (λ (i : bit b m ≡ true). absurd (clash (one_way k w b a m q p i) h)) (λ (i : bit b m ≡ false). h ∙ sym i) (holds? (bit b m)))
    (holds? (bit a m)))

paired_same : (fam : Family) (es : List (Elem (LeafOf fam))) (xs : List (ElementOf fam)) (w : List ℕ) (r r' : ℕ) → Paired fam es xs w r → Paired fam es xs w r' → r ≡ r'
paired_same fam es xs w r r' (right a b) (right c d) = left_same _ w r r' b d
paired_same fam es xs w r r' (right a b) (wrong n q) = absurd (n a)
paired_same fam es xs w r r' (wrong n q) (right a b) = absurd (n a)
paired_same fam es xs w r r' (wrong n q) (wrong n' q') = q ∙ sym q'

pub left_over_unique : (κs : Lfts 5) (a : Dens κs left-over-kinds.ps) (r r' : (res_t left-over-kinds.r κs).Denot) (s s' : AtExit (ended_of 5 left-over-kinds.ps left-over-kinds.r) κs)
    → left-over-reads.Pre κs a → left-over-reads.Post κs a r s → left-over-reads.Post κs a r' s' → r ≡ r'
left_over_unique κs a r r' s s' w p q =
    let served = w.0 in
    let who = served.placed.who in
    let stands = served.placed.stands in
    paired_same served.family who _ _ r r' (p served.family served.lent who stands) (q served.family served.lent who stands)
