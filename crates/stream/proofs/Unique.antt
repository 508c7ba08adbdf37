-- Each public function's promise allows one result only, stated of the contract itself. Assumes nothing.
use mathlib.Core.Path.{◌≡◌, sym, ap, ap₂, ◌∙◌}
use mathlib.Core.List.{List, ◌++◌}
use Prim.Native.Nat.{ℕ, ◌-◌, ◌≤◌, ◌<◌}
use native.Mathlib.Omega.{arith}
use lib.ListN.{length, take, drop, take-append-drop}
use lib.Seq.{length-take-le}
use lib.IntN.{ℤ}
use borrow.Fn.Kinds.{Dens, res_t, ended_of}
use contract.Lifetimes.{Lfts}
use denote.Triple.Clauses.{AtExit}
use Rattle.std.specs.Prelude.{Result, Ok, Err, MatchResult}
use Rattle.grammar.specs.Read.{Read, refuse, got}
use Rattle.grammar.proofs.ReadApart.{clash}
use Rattle.stream.specs.Contract.{zeros, Listed, faulty, read}
use Rattle.stream.specs.declared.List.{List as ListResult}
use Rattle.stream.proofs.record_fault.Reads as record-fault
use Rattle.stream.proofs.record_fault.Kinds as record-fault-kinds
use Rattle.stream.proofs.template_end.Reads as template-end
use Rattle.stream.proofs.template_end.Kinds as template-end-kinds
use Rattle.stream.proofs.read_list.Reads as read-list
use Rattle.stream.proofs.read_list.Kinds as read-list-kinds
use Rattle.facts.proofs.Slices.{same_place}

pub record_fault_unique : (κs : Lfts 1) (a : Dens κs record-fault-kinds.ps) (r r' : (res_t record-fault-kinds.r κs).Denot) (s s' : AtExit (ended_of 1 record-fault-kinds.ps record-fault-kinds.r) κs)
    → record-fault.Post κs a r s → record-fault.Post κs a r' s' → r ≡ r'
record_fault_unique κs a r r' s s' p q = p ∙ sym q

pub template_end_unique : (κs : Lfts 1) (a : Dens κs template-end-kinds.ps) (r r' : (res_t template-end-kinds.r κs).Denot) (s s' : AtExit (ended_of 1 template-end-kinds.ps template-end-kinds.r) κs)
    → template-end.Post κs a r s → template-end.Post κs a r' s' → r ≡ r'
template_end_unique κs a r r' s s' p q = p ∙ sym q

-- ---- what was read as a list

abbrev made : ℕ → ℕ → List ℤ → ListResult
made n next xs = record { n = n; next = next; xs = xs }

made_same : (n n' next next' : ℕ) (xs xs' : List ℤ) → n ≡ n' → next ≡ next' → xs ≡ xs' → made n next xs ≡ made n' next' xs'
made_same n n' next next' xs xs' q u e = ap (λ (m : ℕ). made m next xs) q ∙ ap₂ (λ (v : ℕ) (l : List ℤ). made n' v l) u e

refusal_same : (o : Read (List ℤ)) (r r' : ℕ) → o ≡ refuse r → o ≡ refuse r' → r ≡ r'
refusal_same o r r' p q = cc

got_same : (o : Read (List ℤ)) (xs xs' : List ℤ) (s s' : List ℕ) → o ≡ got xs s → o ≡ got xs' s' → (xs ≡ xs') × (s ≡ s')
got_same o xs xs' s s' p q = (cc, cc)

module _ (n n' : ℕ) (xs xs' : List ℤ) (few : n ≤ 32) (few' : n' ≤ 32) (size : length xs ≡ 32) (size' : length xs' ≡ 32) (front : take n xs ≡ take n' xs') where
  count_same : n ≡ n'
  count_same =
      let e = ap length front in
      let l : length (take n xs) ≡ n = length-take-le n xs (omega arith) in
      let l' : length (take n' xs') ≡ n' = length-take-le n' xs' (omega arith) in
      omega arith

  integers_same : drop n xs ≡ zeros (32 - n) → drop n' xs' ≡ zeros (32 - n') → xs ≡ xs'
  integers_same rest rest' =
      sym (take-append-drop n xs)
      ∙ ap₂ (λ (f r : List ℤ). f ++ r) front (rest ∙ ap (λ (k : ℕ). zeros (32 - k)) count_same ∙ sym rest')
      ∙ take-append-drop n' xs'

pub listed_unique : (t : List ℕ) (o : Read (List ℤ)) (code code' n n' next next' : ℕ) (xs xs' : List ℤ)
    → Listed t o code n next xs → Listed t o code' n' next' xs' → (code ≡ code') × (made n next xs ≡ made n' next' xs')
listed_unique t o code code' n n' next next' xs xs' (faulty q p m w b) (faulty q' p' m' w' b') =
    (refusal_same o code code' q q', made_same n n' next next' xs xs' (m ∙ sym m') (w ∙ sym w') (b ∙ sym b'))
listed_unique t o code code' n n' next next' xs xs' (faulty q p m w b) (read q' z' f' i' l' b') = absurd (clash (sym q ∙ q'))
listed_unique t o code code' n n' next next' xs xs' (read q z f i l b) (faulty q' p' m' w' b') = absurd (clash (sym q' ∙ q))
listed_unique t o code code' n n' next next' xs xs' (read q z f i l b) (read q' z' f' i' l' b') =
    let e = got_same o (take n xs) (take n' xs') (drop next t) (drop next' t) q q' in
    (z ∙ sym z', made_same n n' next next' xs xs' (count_same n n' xs xs' f f' l l' e.0) (same_place t next next' i i' e.1) (integers_same n n' xs xs' f f' l l' e.0 b b'))

result_unique : (t : List ℕ) (o : Read (List ℤ)) (r r' : Result ListResult ℕ)
    → MatchResult r (λ l. Listed t o 0 l.n l.next l.xs) (λ code. (0 < code) × Listed t o code 0 0 (zeros 32))
    → MatchResult r' (λ l. Listed t o 0 l.n l.next l.xs) (λ code. (0 < code) × Listed t o code 0 0 (zeros 32)) → r ≡ r'
result_unique t o (Ok l) (Ok l') p q = ap Ok (listed_unique _ _ _ _ _ _ _ _ _ _ p q).1
result_unique t o (Ok l) (Err e) p q = let z = (listed_unique _ _ _ _ _ _ _ _ _ _ p q.1).0 in absurd (omega (arith, q.0, z))
result_unique t o (Err e) (Ok l) p q = let z = (listed_unique _ _ _ _ _ _ _ _ _ _ p.1 q).0 in absurd (omega (arith, p.0, z))
result_unique t o (Err e) (Err e') p q = ap Err (listed_unique _ _ _ _ _ _ _ _ _ _ p.1 q.1).0

-- the fault, the count, the place and all 32 integers
pub read_list_unique : (κs : Lfts 1) (a : Dens κs read-list-kinds.ps) (r r' : (res_t read-list-kinds.r κs).Denot) (s s' : AtExit (ended_of 1 read-list-kinds.ps read-list-kinds.r) κs)
    → read-list.Post κs a r s → read-list.Post κs a r' s' → r ≡ r'
read_list_unique κs a r r' s s' p q = result_unique _ _ _ _ p q
