-- A piece of one list within another. Assumes nothing.
use mathlib.Core.Path.{◌≡◌, refl, sym, ap, ◌∙◌}
use mathlib.Core.Logic.{⊎_elim}
use mathlib.Core.List.{List}
use Prim.Native.Nat.{ℕ, ◌+◌, ◌-◌, ◌≤◌, ◌<◌}
use native.Mathlib.Omega.{arith}
use lib.ListN.{length, get_or, set, length-set}
use lib.Seq.{get_or-set_same, get_or-set_other, ext_get_or}
use Rattle.facts.proofs.Cases.{same?, below}
use Rattle.assign.specs.Splice.{Spliced}

pub splice_start : (a b : List ℕ) (from : ℕ) → length b ≡ 32 → Spliced a b from from b
splice_start a b from n = record { size = n; inside = λ i l k. absurd (omega arith); before = λ i l. refl; after = λ i l. refl }

pub splice_step : {a b : List ℕ} {from e : ℕ} {r : List ℕ} → e < 32 → from ≤ e → Spliced a b from e r → Spliced a b from (e + 1) (set r e (get_or a e 0))
splice_step {a} {b} {from} {e} {r} h f s =
    let n = s.size in
    record {
      size = length-set r e (get_or a e 0) ∙ n;
      inside = λ i l k. ⊎_elim
          (λ (q : i ≡ e). ap (λ (j : ℕ). get_or (set r e (get_or a e 0)) j 0) q ∙ get_or-set_same r e (get_or a e 0) 0 (omega arith) ∙ ap (λ (j : ℕ). get_or a j 0) (sym q))
          (λ (q : i ≡ e → ⊥). get_or-set_other r e i (get_or a e 0) 0 q ∙ s.inside i l (omega arith))
          (same? i e);
      before = λ i l. get_or-set_other r e i (get_or a e 0) 0 (λ q. omega arith) ∙ s.before i l;
      after = λ i l. get_or-set_other r e i (get_or a e 0) 0 (λ q. omega arith) ∙ s.after i (omega arith);
    }

-- two results have the same byte at every place
pub spliced_same : {a b : List ℕ} {from to : ℕ} (r r' : List ℕ) → Spliced a b from to r → Spliced a b from to r' → r ≡ r'
spliced_same {a} {b} {from} {to} r r' p q = ext_get_or 0 r r' (p.size ∙ sym q.size) (λ i l. ⊎_elim
    (λ (h : i < from). p.before i h ∙ sym (q.before i h))
    (λ (h : from ≤ i). ⊎_elim (λ (k : i < to). p.inside i h k ∙ sym (q.inside i h k)) (λ (k : to ≤ i). p.after i k ∙ sym (q.after i k)) (below i to))
    (below i from))
