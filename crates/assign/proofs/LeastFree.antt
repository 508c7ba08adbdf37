-- The least free member for each element in turn. Assumes nothing.
-- greedy_start, greedy_none, greedy_some: before the first element, and one more, without and with a free member. greedy_rest, greedy_done: where nobody is left.
use mathlib.Core.Path.{◌≡◌, sym, ap, ◌∙◌, subst}
use mathlib.Core.Logic.{◌⊎◌, inl, inr, ⊎_elim}
use mathlib.Core.Bool.{Bool, true, false}
use mathlib.Core.List.{List}
use Prim.Native.Nat.{ℕ, zero, suc, ◌+◌, ◌-◌, ◌≤◌, ◌<◌}
use native.Mathlib.Omega.{arith}
use lib.ListN.{get_or, set, replicate, get_or-replicate}
use lib.Seq.{get_or-set_same, get_or-set_other}
use Rattle.masks.specs.Masks.{bit, Flipped}
use Rattle.facts.specs.Counting.{between}
use Rattle.facts.proofs.Cases.{same?, below, holds?, clash, not_so}
use Rattle.facts.proofs.Spans.{between_from, between_to}
use Rattle.masks.proofs.Masks.{bit_none}
use Rattle.refining.specs.AsBytes.{fits, Dealt}
use Rattle.refining.specs.Refine.{Agrees, Sooner, Leads}
use Rattle.assign.specs.Quick.{Greedy}
use Rattle.facts.proofs.Counting.{cnt_place, cnt_two}
use Rattle.chains.proofs.Chains.{give_spare, within_may}
use Rattle.refining.proofs.AsThirtyTwoBytes.{within_in, fits_block, fits_within, partly_start, partly_done, partly_low, partly_served}
use Rattle.refining.proofs.Refinement.{dealt_outside}

-- on the way: besides, no element from e on has a member yet
pub record GreedyTo (may : ℕ → ℕ → Bool) (first k from to : ℕ) (w : List ℕ) (left : ℕ → Bool) (e : ℕ) : Type 0 where
  pub greedy : Greedy may first k from to w left e
  pub blank : (i : ℕ) → e ≤ i → i < 32 → get_or w i 0 ≡ 255

pub greedy_start : {may : ℕ → ℕ → Bool} {first k from to : ℕ} {left : ℕ → Bool} → first + k ≤ 32 → from ≤ to → to ≤ 32 → ((m : ℕ) → left m ≡ between first (first + k) m)
    → GreedyTo may first k from to (replicate 32 255) left from
greedy_start {may} {first} {k} {from} {to} {left} block piece end all = record {
  greedy = record {
    partly = partly_start block all;
    leads = λ a d. inl (λ i l. dealt_outside d i (omega arith) (not_so (between from to i) (λ u. let x = between_from from to i u in omega arith)) ∙ sym (get_or-replicate {A = ℕ} 32 i 255 0 (omega arith)));
  };
  blank = λ i f l. get_or-replicate {A = ℕ} 32 i 255 0 l;
}

module _ {may : ℕ → ℕ → Bool} {first k from to : ℕ} {w : List ℕ} {left : ℕ → Bool} {e : ℕ} (g : GreedyTo may first k from to w left e) (block : first + k ≤ 32) (piece : from ≤ e) (early : e < to) (end : to ≤ 32) where
  -- what an assignment that is as w before e can have at e: nobody, or a member that is left and may take e
  at_e : (a : List ℕ) → Dealt may first k from to a → Agrees a w e → (get_or a e 0 ≡ 255) ⊎ ((left (get_or a e 0) ≡ true) × (may (get_or a e 0) e ≡ true) × (get_or a e 0 < 32))
  at_e a d agrees = ⊎_elim inl
      (λ (f : fits may first k from to (get_or a e 0) e ≡ true).
      let m = get_or a e 0 in
      let b = fits_block may first k from to m e f in
      let top = between_to first (first + k) m b in
      let o = d.once m (between_from first (first + k) m b) top in
      inr (
        ⊎_elim
            (λ (t : left m ≡ true). t)
            (λ (t : left m ≡ false).
            -- it stands in w, and so in a, before e
            let p = g.greedy.partly in
            let c = p.once m b t in
            let s = cnt_place m w (omega arith) in
            let sw = p.size in
            let sa = d.size in
            let low : s.place < e = ⊎_elim (λ (l : s.place < e). l) (λ (l : e ≤ s.place). let z = g.blank s.place l (omega (arith, s.early)) in let h = s.here in absurd (omega arith)) (below s.place e) in
            let there : get_or a s.place 0 ≡ get_or a e 0 = agrees s.place low ∙ s.here in
            let two = cnt_two a s.place e low (omega arith) there in
            absurd (omega arith))
            (holds? (left m)),
        within_may may from to m e (fits_within may first k from to m e f),
        omega arith,
      ))
      (d.right e (omega arith))

  -- nobody who is left may take e
  pub greedy_none : ((m : ℕ) → left m ≡ true → may m e ≡ true → ⊥) → GreedyTo may first k from to w left (e + 1)
  greedy_none nobody = record {
    greedy = record {
      partly = g.greedy.partly;
      leads = λ a d. ⊎_elim
          (λ (h : Agrees a w e). inl (λ i l. ⊎_elim
          (λ (q : i ≡ e). subst (λ (j : ℕ). get_or a j 0 ≡ get_or w j 0) (sym q) (⊎_elim
          (λ (z : get_or a e 0 ≡ 255). z ∙ sym (g.blank e (omega arith) (omega arith)))
          (λ (z : (left (get_or a e 0) ≡ true) × (may (get_or a e 0) e ≡ true) × (get_or a e 0 < 32)). absurd (nobody _ z.0 z.1))
          (at_e a d h)))
          (λ (q : i ≡ e → ⊥). h i (omega arith))
          (same? i e)))
          (λ (h : Sooner w a e). let l = h.early in inr (record { place = h.place; early = omega arith; agrees = h.agrees; smaller = h.smaller }))
          (g.greedy.leads a d);
    };
    blank = λ i f l. g.blank i (omega arith) l;
  }

  -- the least of those who are left and may take e
  pub greedy_some : {m : ℕ} {rest : ℕ → Bool} → left m ≡ true → may m e ≡ true → ((j : ℕ) → j < m → left j ≡ true → may j e ≡ true → ⊥) → Flipped left m rest
      → GreedyTo may first k from to (set w e m) rest (e + 1)
  greedy_some {m} {rest} l o least flip =
      let p = g.greedy.partly in
      let sw = p.size in
      let low = partly_low p block l in
      let x = set w e m in
      let here : get_or x e 0 ≡ m = get_or-set_same w e m 0 (omega arith) in
      let other : (i : ℕ) → (i ≡ e → ⊥) → get_or x i 0 ≡ get_or w i 0 = λ i q. get_or-set_other w e i m 0 q in
      let was = g.blank e (omega arith) (omega arith) in
      record {
        greedy = record {
          partly = partly_served p block l flip (give_spare e sw low (omega arith) (within_in may from to m e o piece early) (omega arith));
          leads = λ a d. ⊎_elim
              (λ (h : Agrees a w e).
              let before : (i : ℕ) → i < e → get_or a i 0 ≡ get_or x i 0 = λ i z. h i z ∙ sym (other i (λ q. omega arith)) in
              let sooner : m < get_or a e 0 → Sooner x a (e + 1) = λ z. record { place = e; early = omega arith; agrees = before; smaller = subst (λ (v : ℕ). v < get_or a e 0) (sym here) z } in
              ⊎_elim
              (λ (z : get_or a e 0 ≡ 255). inr (sooner (omega arith)))
              (λ (z : (left (get_or a e 0) ≡ true) × (may (get_or a e 0) e ≡ true) × (get_or a e 0 < 32)). ⊎_elim
              (λ (y : get_or a e 0 < m). absurd (least _ y z.0 z.1))
              (λ (y : m ≤ get_or a e 0). ⊎_elim
              (λ (q : get_or a e 0 ≡ m). inl (λ i u. ⊎_elim
              (λ (r : i ≡ e). subst (λ (j : ℕ). get_or a j 0 ≡ get_or x j 0) (sym r) (q ∙ sym here))
              (λ (r : i ≡ e → ⊥). before i (omega arith))
              (same? i e)))
              (λ (q : get_or a e 0 ≡ m → ⊥). inr (sooner (omega arith)))
              (same? (get_or a e 0) m))
              (below (get_or a e 0) m))
              (at_e a d h))
              (λ (h : Sooner w a e).
              let z = h.early in
              inr (record {
                place = h.place;
                early = omega arith;
                agrees = λ i u. h.agrees i u ∙ sym (other i (λ q. omega arith));
                smaller = subst (λ (v : ℕ). v < get_or a h.place 0) (sym (other h.place (λ q. omega arith))) h.smaller;
              }))
              (g.greedy.leads a d);
        };
        blank = λ i f z. other i (λ q. omega arith) ∙ g.blank i (omega arith) z;
      }

-- nobody is left: the elements from e on are spare
greedy_on : {may : ℕ → ℕ → Bool} {first k from to : ℕ} {w : List ℕ} {left : ℕ → Bool} {e : ℕ} → first + k ≤ 32 → from ≤ e → to ≤ 32 → ((m : ℕ) → left m ≡ false)
    → (n : ℕ) → e + n ≤ to → GreedyTo may first k from to w left e → GreedyTo may first k from to w left (e + n)
greedy_on {may} {first} {k} {from} {to} {w} {left} {e} block piece end none zero l g = subst (λ (i : ℕ). GreedyTo may first k from to w left i) (omega arith) g
greedy_on {may} {first} {k} {from} {to} {w} {left} {e} block piece end none (suc n) l g =
    subst (λ (i : ℕ). GreedyTo may first k from to w left i) (omega arith)
    (greedy_none (greedy_on block piece end none n (omega arith) g) block (omega arith) (omega arith) end (λ m t o. clash t (none m)))

pub greedy_rest : {may : ℕ → ℕ → Bool} {first k from to : ℕ} {w : List ℕ} {left : ℕ} {e : ℕ} → first + k ≤ 32 → from ≤ e → e ≤ to → to ≤ 32 → left ≡ 0
    → GreedyTo may first k from to w (bit left) e → Greedy may first k from to w (bit left) to
greedy_rest {may} {first} {k} {from} {to} {w} {left} {e} block piece early end none g =
    subst (λ (i : ℕ). Greedy may first k from to w (bit left) i) (omega arith)
    (greedy_on block piece end (λ m. ap (λ (n : ℕ). bit n m) none ∙ bit_none m) (to - e) (omega arith) g).greedy

-- every member stands
pub greedy_done : {may : ℕ → ℕ → Bool} {first k from to : ℕ} {w : List ℕ} {left : ℕ} → Greedy may first k from to w (bit left) to → left ≡ 0 → Leads may first k from to w to
greedy_done g none = record { dealt = partly_done g.partly (λ m. ap (λ (n : ℕ). bit n m) none ∙ bit_none m); leads = g.leads }
