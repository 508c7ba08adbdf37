-- From the plan and what is found by it to the answers of the entry points: where no row of the table before the scan holds. Assumes nothing.
use mathlib.Core.Path.{◌≡◌, sym, ap, subst₂, ◌∙◌}
use mathlib.Core.Bool.{Bool, true, false, ◌&&◌, cond}
use mathlib.Core.List.{List, [], ◌++◌}
use Prim.Native.Nat.{ℕ, ◌≤◌}
use native.Mathlib.Omega.{arith}
use lib.Dec.{leb}
use lib.ListN.{length, take, drop}
use lib.Seq.{length-take-le}
use Rattle.facts.proofs.Cases.{not_so}
use Rattle.byte_order.specs.ByteOrder.{First}
use Rattle.blocks.specs.Numbers.{blocks_in}
use Rattle.blocks.specs.Pieces.{Contains, Best, Passing}
use Rattle.grammar.specs.Element.{Elem}
use Rattle.format.specs.declared.Family.{Family}
use Rattle.grammar.specs.Family.{LeafOf, ElementOf}
use Rattle.grammar.specs.Template.{Body, Heads, Template, template, members_of}
use Rattle.grammar.specs.Read.{got}
use Rattle.grammar.specs.Whole.{read_template}
use Rattle.grammar.specs.Blocks.{Standing}
use Rattle.plans.specs.declared.Plan.{Plan}
use Rattle.plans.specs.Plans.{PlanOf}
use Rattle.member_rows.specs.Contract.{pair_of}
use Rattle.witnesses.specs.ByKind.{Allows}
use Rattle.pairs.specs.Pairs.{Paired}
use Rattle.obeying.specs.Spread.{Says, Spread}
use Rattle.obeying.proofs.JudgedPairs.{judged_wrong, judged_right, read_plainly, not_plainly, plainly_judged}
use Rattle.matching.specs.Obeys.{body_met, length_met, obeys, Obeys}
use Rattle.matching.specs.Answer.{given, written, element_outside, match_answer, judge_read, judge_answer, Taken}
use Rattle.matching.proofs.FirstWitness.{witness_first}
use Rattle.matching.proofs.Answers.{few_members_lem, accepted, unmatched_where, refused_where, outside_where, judges, judged, judged_outside}
use Rattle.matcher.proofs.ByPlan.{Ready, planned_ready, length_by, unmet_none, best_by}
use Rattle.matcher.proofs.Inside.{Passed, Stopped, own_refusal, outside_type}

-- the first of the lists that obey is the answer's witness
matched_first : (fam : Family) (t : List ℕ) (xs : List (ElementOf fam)) (room : List ℕ) (s : Template (LeafOf fam)) → Taken t xs → length xs ≤ length room → read_template fam t ≡ got s []
    → element_outside fam s xs ≡ false → (w : List ℕ) → First (Obeys fam s xs) w → length w ≡ length xs → match_answer fam t xs room ≡ given 0 (w ++ drop (length xs) room)
unfolding written
matched_first fam t xs room s k l q i w f z =
    accepted fam t xs room s k l q i ∙ ap (λ m. written m room) (witness_first fam s xs w f (few_members_lem fam t s q)) ∙ ap (λ d. given 0 (w ++ drop d room)) z

module _ (fam : Family) (t : List ℕ) (xs : List (ElementOf fam)) (taken : Taken t xs) (p : Plan) (plan : PlanOf fam t p) where
  -- ---- the template is refused, or an element is outside its type
  pub match_refused : (room : List ℕ) → length xs ≤ length room → (n : ℕ) → Stopped fam t p xs n → given n room ≡ match_answer fam t xs room
  match_refused room fits n (own_refusal q) = sym (refused_where fam t xs room n taken fits q)
  match_refused room fits n (outside_type h b q o e) = ap (λ (r : ℕ). given r room) e ∙ sym (outside_where fam t xs room (template h b) taken fits q o)

  pub judge_refused : (w : List ℕ) → length w ≡ length xs → (n : ℕ) → Stopped fam t p xs n → n ≡ judge_answer fam t xs w
  unfolding judge_read
  judge_refused w size n (own_refusal q) = sym (judges fam t xs w taken size ∙ ap (λ u. judge_read fam u xs w) q)
  judge_refused w size n (outside_type h b q o e) = e ∙ sym (judged_outside fam t xs w (template h b) taken size q o)

  -- ---- the template is accepted
  module _ (passed : Passed fam t p xs) (met : Bool) (says : met ≡ (leb p.low (length xs) && leb (length xs) p.high)) where
    ready : Ready fam t p (length xs)
    ready = planned_ready fam t p (length xs) plan passed.zero taken.1

    inside : element_outside fam (template ready.heads ready.body) xs ≡ false
    inside = passed.inside ready.heads ready.body ready.accepted

    met_is : met ≡ length_met ready.heads.length (length xs)
    met_is = length_by fam t p (length xs) taken.1 met says ready.heads ready.body ready.planned

    pub match_unmet : (room : List ℕ) → length xs ≤ length room → met ≡ false → given 1 room ≡ match_answer fam t xs room
    match_unmet room fits f =
        sym (unmatched_where fam t xs room (template ready.heads ready.body) taken fits ready.accepted inside (unmet_none fam ready.heads ready.body xs (sym met_is ∙ f)))

    pub judge_unmet : (w : List ℕ) → length w ≡ length xs → met ≡ false → 1 ≡ judge_answer fam t xs w
    judge_unmet w size f =
        let s = template ready.heads ready.body in
        sym (judged fam t xs w s taken size ready.accepted inside ∙ ap (λ b. cond b 0 1) (not_so (obeys fam s xs w) (unmet_none fam ready.heads ready.body xs (sym met_is ∙ f) w)))

    -- ---- the length is met
    module _ (so : met ≡ true) where
      module _ (w : List ℕ) (size : length w ≡ length xs) where
        few_so : length (members_of ready.body) ≤ 32
        few_so = let s = ready.planned.size in let f = ready.planned.few_members in omega arith

        answer : (r : Bool) → r ≡ obeys fam (template ready.heads ready.body) xs w → cond r 0 1 ≡ judge_answer fam t xs w
        answer r h = ap (λ (v : Bool). cond v 0 1) h ∙ sym (judged fam t xs w (template ready.heads ready.body) taken size ready.accepted inside)

        -- by the pairs that the witness gives
        module _ (left : ℕ) (paired : (es : List (Elem (LeafOf fam))) → Standing fam t es (take p.members p.places) → Paired fam es xs w left) where
          pairs : Paired fam (members_of ready.body) xs w left
          pairs = paired (members_of ready.body) ready.planned.stands

          pub judge_wrong : left ≡ 4294967296 → (p.kind ≡ 0x14 → ⊥) → 1 ≡ judge_answer fam t xs w
          judge_wrong z other =
              answer false (sym (judged_wrong fam ready.heads ready.body xs w size left (not_plainly ready.heads ready.body (λ q. other (ready.planned.kind ∙ q))) few_so z pairs))

          pub judge_right : (left ≡ 4294967296 → ⊥) → (r : Bool) → ((h : Heads) (b : Body (LeafOf fam)) → Says p.kind (blocks_in (take p.count p.blocks)) h b → Spread b w left → r ≡ body_met b w) → cond r 0 1 ≡ judge_answer fam t xs w
          judge_right n r h =
              answer r (judged_right fam ready.heads ready.body xs w size left r few_so (sym met_is ∙ so) n pairs (h ready.heads ready.body (record { kind_is = ready.planned.kind; cut = ready.planned.cut })))

        -- a subset under sheet 1
        pub judge_plain : p.kind ≡ 0x14 → (r : Bool) → ((es : List (Elem (LeafOf fam))) → Standing fam t es (take p.members p.places) → Passing (Contains (pair_of fam es xs) p.members (length w) w) r) → cond r 0 1 ≡ judge_answer fam t xs w
        judge_plain k r h =
            let b = ready.body in
            answer r (plainly_judged fam ready.heads xs w taken.1 (sym met_is ∙ so) r b (read_plainly ready.heads b (sym ready.planned.kind ∙ k)) few_so
            (subst₂ (λ (m n : ℕ). Passing (Contains (pair_of fam (members_of b) xs) m n w) r) ready.planned.size size (h (members_of b) ready.planned.stands)))

      module _ (found : Bool) (w : List ℕ)
          (best : (es : List (Elem (LeafOf fam))) → Standing fam t es (take p.members p.places) → Best (Allows p.kind (blocks_in (take p.count p.blocks)) p.members (pair_of fam es xs) (length xs)) (length xs) found w)
          (room : List ℕ) (fits : length xs ≤ length room) where
        first : Best (Obeys fam (template ready.heads ready.body) xs) (length xs) found w
        first = best_by xs ready (sym met_is ∙ so) best

        pub match_none : found ≡ false → given 1 room ≡ match_answer fam t xs room
        match_none f = sym (unmatched_where fam t xs room (template ready.heads ready.body) taken fits ready.accepted inside (first.none f))

        pub match_found : found ≡ true → (after : List ℕ) → after ≡ take (length xs) w ++ drop (length xs) room → given 0 after ≡ match_answer fam t xs room
        match_found f after c =
            let s = first.size in
            let l : length xs ≤ 32 = taken.1 in
            ap (given 0) c ∙ sym (matched_first fam t xs room (template ready.heads ready.body) taken fits ready.accepted inside (take (length xs) w) (first.best f) (length-take-le (length xs) w (omega arith)))
