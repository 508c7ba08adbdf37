-- From an assignment to the first: the least member at one place, and the places from left to right. Assumes nothing.
-- going_less, going_works, going_done: who can be given a place, and the least of them. leads_start, leads_step: left to right.
use mathlib.Core.Path.{◌≡◌, refl, sym, ap, ◌∙◌, subst}
use mathlib.Core.Logic.{◌⊎◌, inl, inr, ⊎_elim}
use mathlib.Core.Bool.{Bool, true, false}
use mathlib.Core.List.{List}
use Prim.Native.Nat.{ℕ, ◌+◌, ◌≤◌, ◌<◌}
use native.Mathlib.Omega.{arith}
use lib.ListN.{get_or}
use Rattle.facts.specs.Counting.{between, cnt}
use Rattle.refining.specs.AsBytes.{Dealt}
use Rattle.refining.specs.Refine.{Rival, Candidates, Agrees, Tries, Going, Improved, Sooner, Leads}
use Rattle.facts.proofs.Cases.{below, holds?, clash}
use Rattle.facts.proofs.Spans.{between_from, between_to}
use Rattle.facts.proofs.Counting.{cnt_at}
use Rattle.chains.proofs.Chains.{within_may, within_piece}
use Rattle.refining.proofs.AsThirtyTwoBytes.{Asks, dealt_block, fits_block, fits_within}

-- a byte of an assignment: 255, or a member of the block that may take the element
pub byte : {may : ℕ → ℕ → Bool} {first k from to : ℕ} {a : List ℕ} → Dealt may first k from to a → (e : ℕ) → e < 32
    → (get_or a e 0 ≡ 255) ⊎ ((first ≤ get_or a e 0) × (get_or a e 0 < first + k) × (may (get_or a e 0) e ≡ true))
byte {may} {first} {k} {from} {to} {a} d e l = ⊎_elim inl
    (λ f. let b = fits_block may first k from to _ e f in inr (between_from first (first + k) _ b, between_to first (first + k) _ b, within_may may from to _ e (fits_within may first k from to _ e f)))
    (d.right e l)

-- ---- the least member at e: an assignment that is as w before e and has a smaller byte at e has one of C there
module _ {may : ℕ → ℕ → Bool} {first k from to : ℕ} {w : List ℕ} {e : ℕ} (block : first + k ≤ 32) (d : Dealt may first k from to w) where
  -- the rivals that are no candidates cannot have e
  pub going_less : {R C : ℕ → Bool} → from ≤ e → Going may first k from to w e R → Candidates may to w e R C → Going may first k from to w e C
  going_less {R} {C} after g h = record {
    going = λ a da agrees less. ⊎_elim
        (λ (c : C (get_or a e 0) ≡ true). c)
        (λ (c : C (get_or a e 0) ≡ false). absurd (h.rest first k from block after d (get_or a e 0) (g.going a da agrees less) c a (record { dealt = da; agrees = agrees; takes = refl })))
        (holds? (C (get_or a e 0)));
  }

  module _ {C : ℕ → Bool} (h : Going may first k from to w e C) where
    -- the least of C can have e
    pub going_works : {m : ℕ} {x : List ℕ} → m < get_or w e 0 → ((j : ℕ) → j < m → C j ≡ false) → Tries may first k from to w e m x → Improved may first k from to w e x
    going_works {m} {x} less least r =
        let here = r.takes in
        record {
          dealt = r.dealt;
          agrees = r.agrees;
          least = λ a da g. ⊎_elim
              (λ (l : get_or a e 0 < m). absurd (clash (h.going a da g (omega arith)) (least (get_or a e 0) l)))
              (λ (l : m ≤ get_or a e 0). omega arith)
              (below (get_or a e 0) m);
        }

    -- none is left
    pub going_done : ((j : ℕ) → C j ≡ false) → Improved may first k from to w e w
    going_done none = record {
      dealt = d;
      agrees = λ i l. refl;
      least = λ a da g. ⊎_elim
          (λ (l : get_or a e 0 < get_or w e 0). absurd (clash (h.going a da g l) (none (get_or a e 0))))
          (λ (l : get_or w e 0 ≤ get_or a e 0). l)
          (below (get_or a e 0) (get_or w e 0));
    }

  -- a rival is of the block, and may be exchanged
  pub rival_asks : {m : ℕ} → from ≤ e → to ≤ 32 → Rival may w e to m → Asks may first k from to w e m
  rival_asks {m} after end r =
      let l = r.later in
      let z = r.low in
      let early = l.early in
      let long = d.size in
      let c : 1 ≤ cnt m w = subst (λ (v : ℕ). 1 ≤ cnt v w) l.here (cnt_at w l.place (omega arith)) in
      record { dealt = d; after = after; member = dealt_block d m (omega arith) c; may_take = r.may_take; other = λ q. omega (arith, r.below) }

-- ---- left to right
outside : {may : ℕ → ℕ → Bool} {first k from to : ℕ} {a : List ℕ} → Dealt may first k from to a → (i : ℕ) → i < 32 → (between from to i ≡ true → ⊥) → get_or a i 0 ≡ 255
outside {may} {first} {k} {from} {to} d i l n = ⊎_elim (λ q. q) (λ f. absurd (n (within_piece may from to _ i (fits_within may first k from to _ i f)))) (d.right i l)

pub dealt_outside : {may : ℕ → ℕ → Bool} {first k from to : ℕ} {a : List ℕ} → Dealt may first k from to a → (i : ℕ) → i < 32 → between from to i ≡ false → get_or a i 0 ≡ 255
dealt_outside d i l n = outside d i l (λ p. clash p n)

pub leads_start : {may : ℕ → ℕ → Bool} {first k from to : ℕ} {w : List ℕ} → from ≤ 32 → Dealt may first k from to w → Leads may first k from to w from
leads_start {may} {first} {k} {from} {to} end d = record {
  dealt = d;
  leads = λ a da. inl (λ i l.
      let n : between from to i ≡ true → ⊥ = λ b. let z = between_from from to i b in omega arith in
      outside da i (omega arith) n ∙ sym (outside d i (omega arith) n));
}

pub leads_step : {may : ℕ → ℕ → Bool} {first k from to : ℕ} {w x : List ℕ} {e : ℕ} → Leads may first k from to w e → Improved may first k from to w e x → Leads may first k from to x (e + 1)
leads_step {may} {first} {k} {from} {to} {w} {x} {e} h m = record {
  dealt = m.dealt;
  leads = λ a d. ⊎_elim
      (λ (g : Agrees a w e).
      let l = m.least a d g in
      ⊎_elim
      (λ (q : get_or x e 0 < get_or a e 0). inr (record { place = e; early = omega arith; agrees = λ i z. g i z ∙ sym (m.agrees i z); smaller = q }))
      (λ (q : get_or a e 0 ≤ get_or x e 0). inl (λ i z. ⊎_elim
      (λ (r : i < e). g i r ∙ sym (m.agrees i r))
      (λ (r : e ≤ i).
      let s : i ≡ e = omega arith in
      let u : get_or a e 0 ≡ get_or x e 0 = omega arith in
      ap (λ (j : ℕ). get_or a j 0) s ∙ u ∙ ap (λ (j : ℕ). get_or x j 0) (sym s))
      (below i e)))
      (below (get_or x e 0) (get_or a e 0)))
      (λ (s : Sooner w a e).
      let early = s.early in
      inr (record {
        place = s.place;
        early = omega arith;
        agrees = λ i z. s.agrees i z ∙ sym (m.agrees i (omega arith));
        smaller = subst (λ (v : ℕ). v < get_or a s.place 0) (sym (m.agrees s.place early)) s.smaller;
      }))
      (h.leads a d);
}
