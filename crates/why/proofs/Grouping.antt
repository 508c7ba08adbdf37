-- From the plan to the group. Assumes nothing.
-- group_many, group_refused: where a row of the table holds there is none. group_by: else what the plan's template and the list ask.
-- unmet_asks, other_asks, superset_asks, subset_asks: that, by the length, the kind and the rows; group_unmet, group_other, group_superset,
-- group_subset: the same by the plan. neither, the_other: what the test of the kind says.
use mathlib.Core.Path.{◌≡◌, refl, sym, ap, ◌∙◌, subst, subst₂}
use mathlib.Core.Bool.{Bool, true, false, ◌&&◌, ◌||◌, cond}
use mathlib.Core.Logic.{⊎_elim}
use mathlib.Core.List.{List, []}
use Prim.Native.Nat.{ℕ, ◌≤◌, ◌<◌}
use native.Mathlib.Omega.{arith}
use lib.Dec.{eqb, leb}
use lib.ListN.{length, get_or, take}
use borrow.Author.Tests.{lt-ltb, eqb-true, eq-eqb}
use Rattle.rows.specs.Rows.{may}
use Rattle.facts.proofs.Cases.{by-test, clash, one_of, or_left, or_right}
use Rattle.grammar.specs.Element.{Elem}
use Rattle.format.specs.declared.Family.{Family}
use Rattle.grammar.specs.Family.{LeafOf, ElementOf, no_element, matches_of}
use Rattle.grammar.specs.Template.{Body, record_of, set_of, superset, subset, is_plain, Heads, plainly, Template, template, members_of}
use Rattle.grammar.specs.Read.{got}
use Rattle.grammar.specs.Whole.{read_template}
use Rattle.grammar.specs.Blocks.{body_kind, kind_read, Standing}
use Rattle.grammar.specs.Members.{member_hits}
use Rattle.grammar.proofs.MemberLimit.{accepted_short}
use Rattle.plans.specs.Plans.{Planned, PlanOf, refused_plan, a_plan}
use Rattle.plans.specs.declared.Plan.{Plan}
use Rattle.member_rows.specs.Contract.{RowsOf}
use Rattle.matching.specs.Obeys.{length_met}
use Rattle.matching.specs.Answer.{element_outside, Taken}
use Rattle.matcher.proofs.ByPlan.{length_by}
use Rattle.matcher.proofs.Inside.{Passed, Stopped, own_refusal, outside_type}
use Rattle.reasons.specs.Reason.{Given}
use Rattle.reasons.proofs.Groups.{given_agree}
use Rattle.why.specs.Why.{pairs, of_nothing, asked_by, asked_of}
use Rattle.why.specs.Contract.{Grouped, GroupFor}

-- ---- no group
module _ (fam : Family) (t : List ℕ) (xs : List (ElementOf fam)) where
  none_for : ((s : Template (LeafOf fam)) → Taken t xs → read_template fam t ≡ got s [] → element_outside fam s xs ≡ false → ⊥) → GroupFor fam t xs 0
  none_for never = record { accepted = λ some. absurd (some refl); group = λ k s q i. absurd (never s k q i) }

  pub group_many : 32 < length xs → GroupFor fam t xs 0
  group_many l = none_for (λ s k q i. let z = k.1 in omega arith)

  pub group_refused : (p : Plan) (n : ℕ) → Stopped fam t p xs n → GroupFor fam t xs 0
  group_refused p n (own_refusal q) = none_for (λ s k e i. let c : ◌≡◌ {A = ℕ} 0 1 = cc in omega arith)
  group_refused p n (outside_type h b q o z) = none_for (λ s k e i. let same : template h b ≡ s = cc in clash o (ap (λ (s : Template (LeafOf fam)). element_outside fam s xs) same ∙ i))

  -- ---- what is asked of the plan's template
  pub group_by : (p : Plan) (g : ℕ) → PlanOf fam t p → Passed fam t p xs → length xs ≤ 32
      → ((h : Heads) (b : Body (LeafOf fam)) → Planned fam t h b p → Grouped (asked_of fam (template h b) xs) g) → GroupFor fam t xs g
  group_by p g (refused_plan r q z e) passed k asks = let y : r ≡ 0 = sym (ap (λ (x : Plan). x.number) e) ∙ passed.zero in absurd (omega arith)
  group_by p g (a_plan h b q z pl) passed k asks = record {
    accepted = λ some. (template h b, (accepted_short fam t (template h b) q, k), q, passed.inside h b q);
    group = λ k s e i. let same : template h b ≡ s = cc in subst (λ (s : Template (LeafOf fam)). Grouped (asked_of fam s xs) g) same (asks h b pl);
  }

-- ---- by the length and the kind
unmet_asks : (fam : Family) (h : Heads) (b : Body (LeafOf fam)) (xs : List (ElementOf fam)) → length_met h.length (length xs) ≡ false → Grouped (asked_of fam (template h b) xs) 0
unfolding asked_of Grouped
unmet_asks fam h b xs m = subst (λ (s : Bool). Grouped (cond s (asked_by fam h b xs) of_nothing) 0) (sym m) refl

body_asks : (fam : Family) (h : Heads) (b : Body (LeafOf fam)) (xs : List (ElementOf fam)) (g : ℕ) → length_met h.length (length xs) ≡ true → Grouped (asked_by fam h b xs) g → Grouped (asked_of fam (template h b) xs) g
unfolding asked_of
body_asks fam h b xs g m asks = subst (λ (s : Bool). Grouped (cond s (asked_by fam h b xs) of_nothing) g) (sym m) asks

other_asks : (fam : Family) (h : Heads) (b : Body (LeafOf fam)) (xs : List (ElementOf fam)) → (kind_read h b ≡ 0x12 → ⊥) → (kind_read h b ≡ 0x13 → ⊥) → Grouped (asked_by fam h b xs) 0
unfolding kind_read plainly body_kind asked_by Grouped
other_asks fam h (record_of is) xs n o = refl
other_asks fam h (set_of g) xs n o = refl
other_asks fam h (superset es) xs n o = absurd (n refl)
other_asks fam h (subset es) xs n o = by-test (is_plain h.sheet) (λ p. rw p refl) (λ p. absurd (o (rw p)))

-- the rows say what `pairs` says
rows_pairs : {fam : Family} {es : List (Elem (LeafOf fam))} {xs : List (ElementOf fam)} {rows : List ℕ} → RowsOf fam es xs rows → (m e : ℕ) → m < length es → e < length xs → may rows m e ≡ pairs fam es xs m e
unfolding pairs
rows_pairs {fam} {es} {xs} r m e l h = r.right m e l h ∙ sym (ap (λ (s : Bool). s && member_hits (matches_of fam) es m (get_or xs e (no_element fam))) (lt-ltb e (length xs) h))

superset_asks : (fam : Family) (h : Heads) (b : Body (LeafOf fam)) (xs : List (ElementOf fam)) (rows : List ℕ) (g : ℕ) → kind_read h b ≡ 0x12 → RowsOf fam (members_of b) xs rows → Given (may rows) (length (members_of b)) (length xs) g → Grouped (asked_by fam h b xs) g
unfolding kind_read plainly body_kind asked_by Grouped members_of
superset_asks fam h (record_of is) xs rows g k r w = absurd (omega arith)
superset_asks fam h (set_of x) xs rows g k r w = absurd (omega arith)
superset_asks fam h (superset es) xs rows g k r w = given_agree (rows_pairs r) w
superset_asks fam h (subset es) xs rows g k r w = by-test (is_plain h.sheet) (λ p. let z : ◌≡◌ {A = ℕ} 0x14 0x12 = rw p at k in absurd (omega arith)) (λ p. let z : ◌≡◌ {A = ℕ} 0x13 0x12 = rw p at k in absurd (omega arith))

subset_asks : (fam : Family) (h : Heads) (b : Body (LeafOf fam)) (xs : List (ElementOf fam)) (rows : List ℕ) (g : ℕ) → kind_read h b ≡ 0x13 → RowsOf fam (members_of b) xs rows → Given (λ e m. may rows m e) (length xs) (length (members_of b)) g → Grouped (asked_by fam h b xs) g
unfolding kind_read plainly body_kind asked_by Grouped members_of
subset_asks fam h (record_of is) xs rows g k r w = absurd (omega arith)
subset_asks fam h (set_of x) xs rows g k r w = absurd (omega arith)
subset_asks fam h (superset es) xs rows g k r w = absurd (omega arith)
subset_asks fam h (subset es) xs rows g k r w = by-test (is_plain h.sheet) (λ p. let z : ◌≡◌ {A = ℕ} 0x14 0x13 = rw p at k in absurd (omega arith)) (λ p. rw p (given_agree (λ e m l i. rows_pairs r m e i l) w))

-- ---- by the plan, of a list of n elements
module _ (fam : Family) (t : List ℕ) (p : Plan) (xs : List (ElementOf fam)) (n : ℕ) (size : length xs ≡ n) (short : n ≤ 32) (plan : PlanOf fam t p) (passed : Passed fam t p xs) (met : Bool) (says : met ≡ (leb p.low n && leb n p.high)) where
  few : length xs ≤ 32
  few = omega arith

  met_is : (h : Heads) (b : Body (LeafOf fam)) → Planned fam t h b p → length_met h.length (length xs) ≡ met
  met_is h b pl = ap (length_met h.length) size ∙ sym (length_by fam t p n short met says h b pl)

  pub group_unmet : met ≡ false → GroupFor fam t xs 0
  group_unmet m = group_by fam t xs p 0 plan passed few (λ h b pl. unmet_asks fam h b xs (met_is h b pl ∙ m))

  module _ (m : met ≡ true) where
    by_body : (g : ℕ) → ((h : Heads) (b : Body (LeafOf fam)) → Planned fam t h b p → Grouped (asked_by fam h b xs) g) → GroupFor fam t xs g
    by_body g asks = group_by fam t xs p g plan passed few (λ h b pl. body_asks fam h b xs g (met_is h b pl ∙ m) (asks h b pl))

    pub group_other : (p.kind ≡ 0x12 → ⊥) → (p.kind ≡ 0x13 → ⊥) → GroupFor fam t xs 0
    group_other n o = by_body 0 (λ h b pl. other_asks fam h b xs (λ k. n (pl.kind ∙ k)) (λ k. o (pl.kind ∙ k)))

    module _ (rows : List ℕ) (right : (es : List (Elem (LeafOf fam))) → Standing fam t es (take p.members p.places) → RowsOf fam es xs rows) (g : ℕ) where
      pub group_superset : p.kind ≡ 0x12 → Given (may rows) p.members n g → GroupFor fam t xs g
      group_superset k given = by_body g (λ h b pl.
          superset_asks fam h b xs rows g (sym pl.kind ∙ k) (right (members_of b) pl.stands) (subst₂ (λ (i j : ℕ). Given (may rows) i j g) pl.size (sym size) given))

      pub group_subset : p.kind ≡ 0x13 → Given (λ e m. may rows m e) n p.members g → GroupFor fam t xs g
      group_subset k given = by_body g (λ h b pl.
          subset_asks fam h b xs rows g (sym pl.kind ∙ k) (right (members_of b) pl.stands) (subst₂ (λ (i j : ℕ). Given (λ e m. may rows m e) i j g) (sym size) pl.size given))

-- ---- the test of the kind
pub neither : (kind : ℕ) → (eqb kind 0x12 || eqb kind 0x13) ≡ false → (kind ≡ 0x12 → ⊥) × (kind ≡ 0x13 → ⊥)
neither kind h = (λ k. clash (or_left (eqb kind 0x12) (eqb kind 0x13) (eq-eqb kind 0x12 k)) h, λ k. clash (or_right (eqb kind 0x12) (eqb kind 0x13) (eq-eqb kind 0x13 k)) h)

pub the_other : (kind : ℕ) → (eqb kind 0x12 || eqb kind 0x13) ≡ true → (kind ≡ 0x12 → ⊥) → kind ≡ 0x13
the_other kind h n = ⊎_elim (λ (k : eqb kind 0x12 ≡ true). absurd (n (eqb-true kind 0x12 k))) (λ (k : eqb kind 0x13 ≡ true). eqb-true kind 0x13 k) (one_of (eqb kind 0x12) (eqb kind 0x13) h)
