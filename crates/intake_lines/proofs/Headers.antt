-- The header: the refusal of the whole input, in the order of the definition, or the plan of its template. Assumes nothing.
use mathlib.Core.Path.{◌≡◌, refl, sym, ap, subst, ◌∙◌}
use mathlib.Core.Bool.{true, false}
use mathlib.Core.List.{List, [], ◌∷◌}
use Prim.Native.Nat.{ℕ, ◌-◌, ◌≤◌, ◌<◌}
use native.Mathlib.Omega.{arith}
use native.Mathlib.Nat.{pos_of_ne-zero}
use lib.ListN.{length, take, drop}
use Rattle.facts.proofs.Cases.{clash}
use borrow.Author.Tests.{lt-ltb, le-ltb}
use Rattle.format.specs.declared.Family.{Family}
use Rattle.grammar.specs.Read.{Read, got, refuse_or, verdict}
use Rattle.grammar.specs.Whole.{read_template}
use Rattle.plans.specs.Plans.{no_plan, PlanOf, refused_plan, a_plan}
use Rattle.plans.specs.declared.Plan.{Plan}
use Rattle.lines.specs.Line.{line}
use Rattle.lines.specs.Contract.{Wrote}
use Rattle.stream.specs.Input.{record_fault, template_size, after_template, template_in, reached}
use Rattle.grammar.proofs.ReadApart.{refuse_is}
use Rattle.stream.proofs.Lists.{record_long}
use Rattle.intake_lines.specs.Contract.{InputPlan, rejected, accepted, Headed, refused, found}

pub header_long : (s : List ℕ) (r : ℕ) → r ≡ record_fault 0x50 3 s → r ≡ 0 → 3 ≤ length s
header_long s r known none = record_long 0x50 3 s (sym known ∙ none)

module _ (s : List ℕ) (p : Plan) where
  pub header_over : 65536 < length s → p ≡ no_plan 2 → InputPlan s p
  unfolding reached
  header_over h said = rejected 2 (rw (lt-ltb 65536 (length s) h)) (omega arith) said

  module _ (r : ℕ) (fits : length s ≤ 65536) (known : r ≡ record_fault 0x50 3 s) where
    pub header_fault : (r ≡ 0 → ⊥) → p ≡ no_plan r → InputPlan s p
    unfolding reached
    header_fault bad said = rejected r (rw (le-ltb 65536 (length s) fits, ← known) (refuse_is r _ bad)) (pos_of_ne-zero bad) said

    pub header_missing : r ≡ 0 → (end : ℕ) → end ≡ after_template s → length s < end → p ≡ no_plan 3 → InputPlan s p
    unfolding reached
    header_missing none end e h said =
        rejected 3 (rw (le-ltb 65536 (length s) fits, ← known, none, lt-ltb (length s) (after_template s) (omega arith))) (omega arith) said

    pub header_planned : r ≡ 0 → (end : ℕ) → end ≡ after_template s → end ≤ length s → PlanOf Family.Integers (take (end - 3) (drop 3 s)) p → InputPlan s p
    unfolding reached verdict
    header_planned none end e h plan = go plan
      where
        size : end - 3 ≡ template_size s
        size = omega arith

        whole : Read (List ℕ)
        whole = got (template_in s) (drop (after_template s) s)

        here : reached s ≡ refuse_or (verdict (read_template Family.Integers (take (end - 3) (drop 3 s)))) whole
        here = rw (le-ltb 65536 (length s) fits, ← known, none, le-ltb (length s) (after_template s) (omega arith), size)

        go : PlanOf Family.Integers (take (end - 3) (drop 3 s)) p → InputPlan s p
        go (refused_plan number q l said) = rejected number (here ∙ ap (λ o. refuse_or (verdict o) whole) q ∙ refuse_is number whole (λ z. omega arith)) l said
        go (a_plan a b q z w) =
            accepted (here ∙ ap (λ o. refuse_or (verdict o) whole) q) z (omega arith)
            (subst (λ (n : ℕ). PlanOf Family.Integers (take n (drop 3 s)) p) size plan)

module _ (s : List ℕ) (p : Plan) where
  pub headed_refused : (before after : List ℕ) (wrote : ℕ) → InputPlan s p → (p.number ≡ 0 → ⊥) → Wrote (line 0 (p.number ∷ 0 ∷ [])) before after wrote → Headed s before after wrote 0 false p
  headed_refused before after wrote (rejected r q l said) bad w =
      let same : p.number ≡ r = ap (λ (x : Plan). x.number) said in
      refused r q (subst (λ (n : ℕ). Wrote (line 0 (n ∷ 0 ∷ [])) before after wrote) same w) refl refl said
  headed_refused before after wrote (accepted q z f plan) bad w = absurd (bad z)

  -- the number is all that the plan of a refused input says
  pub headed_number : (before after : List ℕ) (wrote : ℕ) → Headed s before after wrote 0 false p → Headed s before after wrote 0 false (no_plan p.number)
  headed_number before after wrote (refused r q w n m said) = refused r q w n m (ap (λ (x : Plan). no_plan x.number) said)
  headed_number before after wrote (found q f i w m l) = absurd (clash m refl)

  pub headed_long : InputPlan s p → p.number ≡ 0 → after_template s ≤ length s
  headed_long (rejected r q l said) none = let same : p.number ≡ r = ap (λ (x : Plan). x.number) said in absurd (omega arith)
  headed_long (accepted q z f plan) none = f

  pub headed_found : (o : List ℕ) (end : ℕ) → InputPlan s p → p.number ≡ 0 → end ≡ after_template s → Headed s o o 0 end true p
  headed_found o end (rejected r q l said) none e = let same : p.number ≡ r = ap (λ (x : Plan). x.number) said in absurd (omega arith)
  headed_found o end (accepted q z f plan) none e =
      let size : template_size s ≡ end - 3 = omega arith in
      found (q ∙ ap (λ (n : ℕ). got (take n (drop 3 s)) (drop (after_template s) s)) size ∙ ap (λ (n : ℕ). got (take (end - 3) (drop 3 s)) (drop n s)) (sym e)) (omega arith) (omega arith) (record { bytes = refl; count = refl }) refl
      (subst (λ (n : ℕ). PlanOf Family.Integers (take n (drop 3 s)) p) size plan)
