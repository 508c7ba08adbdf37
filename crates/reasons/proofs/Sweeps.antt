-- One sweep over the elements, and sweeps until nothing is added. Assumes nothing.
-- sweep_spare, sweep_apart, sweep_owner: one sweep, element by element.
-- grow_start, grow_more: one sweep more. turns_fall: the sweeps come to an end.
use mathlib.Core.Path.{◌≡◌, refl, sym, ap, ◌∙◌, subst}
use mathlib.Core.Logic.{◌⊎◌, inr, ⊎_elim}
use mathlib.Core.Bool.{Bool, true, false, not}
use mathlib.Core.List.{List}
use Prim.Native.Nat.{ℕ, ◌+◌, ◌-◌, ◌≤◌, ◌<◌}
use native.Mathlib.Omega.{arith}
use lib.Dec.{eqb}
use lib.ListN.{get_or}
use borrow.Author.Tests.{eqb-true, eq-eqb, not-false}
use Rattle.facts.specs.Counting.{one_if, count}
use Rattle.masks.specs.Masks.{bit, Plus, Meets}
use Rattle.rows.specs.Rows.{may}
use Rattle.facts.proofs.Cases.{same?, holds?, clash}
use Rattle.masks.proofs.Masks.{bits_same}
use Rattle.rows.proofs.Rows.{row_may}
use Rattle.facts.proofs.Counting.{count_less}
use Rattle.facts.proofs.CountedSets.{one_bound, count_bound}
use Rattle.reasons.specs.Grow.{HeldClosed, Swept}

-- r is G and some of those who hold an element that one of r matches: all of them for the elements below e, where r is G
pub record Sweeping (rows : List ℕ) (n : ℕ) (w : List ℕ) (G e r : ℕ) : Type 0 where
  pub grew : (v : ℕ) → bit G v ≡ true → bit r v ≡ true
  pub least : (C : ℕ → Bool) → HeldClosed (may rows) n w C → ((v : ℕ) → bit G v ≡ true → C v ≡ true) → (v : ℕ) → bit r v ≡ true → C v ≡ true
  pub passed : (i : ℕ) → i < e → (v : ℕ) → bit G v ≡ true → may rows v i ≡ true → get_or w i 0 < 32 → bit r (get_or w i 0) ≡ true
  pub bigger : (r ≡ G) ⊎ (count (bit G) 32 < count (bit r) 32)

module _ {rows : List ℕ} {n : ℕ} {w : List ℕ} {G e r : ℕ} (s : Sweeping rows n w G e r) where
  further : ((v : ℕ) → bit G v ≡ true → may rows v e ≡ true → get_or w e 0 < 32 → bit r (get_or w e 0) ≡ true) → Sweeping rows n w G (e + 1) r
  further here = record {
    grew = s.grew;
    least = s.least;
    passed = λ i l. ⊎_elim
        (λ (q : i ≡ e). subst (λ (j : ℕ). (v : ℕ) → bit G v ≡ true → may rows v j ≡ true → get_or w j 0 < 32 → bit r (get_or w j 0) ≡ true) (sym q) here)
        (λ (q : i ≡ e → ⊥). s.passed i (omega arith))
        (same? i e);
    bigger = s.bigger;
  }

  pub sweep_spare : 32 ≤ get_or w e 0 → Sweeping rows n w G (e + 1) r
  sweep_spare l = further (λ v t o z. absurd (omega arith))

  pub sweep_apart : Meets (get_or rows e 0) r false → Sweeping rows n w G (e + 1) r
  sweep_apart m = further (λ v t o z. absurd (m.none refl v (row_may rows v e ∙ o) (s.grew v t)))

  pub sweep_owner : {x : ℕ} → e < n → get_or w e 0 < 32 → Meets (get_or rows e 0) r true → Plus (bit r) (get_or w e 0) (bit x) → Sweeping rows n w G (e + 1) x
  sweep_owner {x} l z m p = record {
    grew = λ v t. up v (s.grew v t);
    least = λ C c around v t. ⊎_elim
        (λ (q : v ≡ get_or w e 0). let u = m.some refl in subst (λ (y : ℕ). C y ≡ true) (sym q) (c u.0 (s.least C c around u.0 u.2) e l (sym (row_may rows u.0 e) ∙ u.1) z))
        (λ (q : v ≡ get_or w e 0 → ⊥). s.least C c around v (sym (p.other v q) ∙ t))
        (same? v (get_or w e 0));
    passed = λ i j v t o y. ⊎_elim
        (λ (q : i ≡ e). subst (λ (j : ℕ). bit x (get_or w j 0) ≡ true) (sym q) p.self)
        (λ (q : i ≡ e → ⊥). up (get_or w i 0) (s.passed i (omega arith) v t o y))
        (same? i e);
    bigger = ⊎_elim
        (λ (h : bit r (get_or w e 0) ≡ true).
        let same : x ≡ r = bits_same x r (λ v. ⊎_elim (λ (q : v ≡ get_or w e 0). subst (λ (y : ℕ). bit x y ≡ bit r y) (sym q) (p.self ∙ sym h)) (λ (q : v ≡ get_or w e 0 → ⊥). p.other v q) (same? v (get_or w e 0))) in
        subst (λ (y : ℕ). (y ≡ G) ⊎ (count (bit G) 32 < count (bit y) 32)) (sym same) s.bigger)
        (λ (h : bit r (get_or w e 0) ≡ false).
        let more = count_less {P = bit r} {S = bit x} up (get_or w e 0) h p.self 32 z in
        ⊎_elim
        (λ (q : r ≡ G). inr (subst (λ (y : ℕ). count (bit y) 32 < count (bit x) 32) q more))
        (λ (q : count (bit G) 32 < count (bit r) 32). inr (omega arith))
        s.bigger)
        (holds? (bit r (get_or w e 0)));
  }
    where
      up : (v : ℕ) → bit r v ≡ true → bit x v ≡ true
      up v t = ⊎_elim
          (λ (q : v ≡ get_or w e 0). subst (λ (y : ℕ). bit x y ≡ true) (sym q) p.self)
          (λ (q : v ≡ get_or w e 0 → ⊥). p.other v q ∙ t)
          (same? v (get_or w e 0))

-- ---- sweeps until nothing is added
pub record Growing (rows : List ℕ) (n : ℕ) (w : List ℕ) (U G : ℕ) (more : Bool) : Type 0 where
  pub around : (v : ℕ) → bit U v ≡ true → bit G v ≡ true
  pub least : (C : ℕ → Bool) → HeldClosed (may rows) n w C → ((v : ℕ) → bit U v ≡ true → C v ≡ true) → (v : ℕ) → bit G v ≡ true → C v ≡ true
  pub done : more ≡ false → HeldClosed (may rows) n w (bit G)

pub grow_start : {rows : List ℕ} {n : ℕ} {w : List ℕ} {U : ℕ} → Growing rows n w U U true
grow_start = record { around = λ v t. t; least = λ C c up. up; done = λ q. absurd (clash refl q) }

pub grow_more : {rows : List ℕ} {n : ℕ} {w : List ℕ} {U G R : ℕ} {more : Bool} → Growing rows n w U G more → Swept (may rows) n w G R
    → Growing rows n w U R (not (eqb R G))
grow_more {rows} {n} {w} {U} {G} {R} g s = record {
  around = λ v t. s.grew v (g.around v t);
  least = λ C c up. s.least C c (g.least C c up);
  done = λ q. let same = eqb-true R G (not-false _ q) in subst (λ (y : ℕ). HeldClosed (may rows) n w (bit y)) (sym same) (s.full same);
}

-- the members that are not in the group, and one turn more where the last one added some
abbrev pub turns_left : ℕ → Bool → ℕ
turns_left G more = 32 - count (bit G) 32 + one_if more

pub turns_fall : {ok : ℕ → ℕ → Bool} {n : ℕ} {w : List ℕ} {G R : ℕ} → Swept ok n w G R → turns_left R (not (eqb R G)) < turns_left G true
turns_fall {ok} {n} {w} {G} {R} s = ⊎_elim
    (λ (q : R ≡ G). let a : one_if (not (eqb R G)) ≡ 0 = ap (λ b. one_if (not b)) (eq-eqb R G q) in let b = ap (λ (y : ℕ). count (bit y) 32) q in omega arith)
    (λ (q : count (bit G) 32 < count (bit R) 32). let a = one_bound (not (eqb R G)) in let b = count_bound (bit R) 32 in omega arith)
    s.bigger
