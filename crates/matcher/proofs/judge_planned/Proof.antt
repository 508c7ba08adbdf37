-- `matcher::judge_planned` meets its contract: each test of the code is the next row of `judge_answer`. Assumes nothing.
use mathlib.Core.Path.{◌≡◌, refl, sym, ◌∙◌}
use mathlib.Core.List.{List}
use mathlib.Core.Logic.{⊎_elim}
use Prim.Native.Nat.{ℕ, ◌+◌}
use native.Mathlib.Omega.{arith}
use borrow.Author.Rules.{rules}
use borrow.Author.Tests.{not-true, not-false}
use lib.ListN.{length}
use Rattle.format.specs.declared.Family.{Family}
use Rattle.grammar.specs.Family.{ElementOf, list_of, Lent}
use Rattle.plans.specs.Plans.{PlanOf}
use Rattle.matching.specs.Answer.{Taken}
use Rattle.matching.proofs.Answers.{judge_two, judge_eleven, judge_thirteen}
use Rattle.matcher.proofs.ByPlan.{Ready, planned_ready, ready_inside}
use Rattle.matcher.proofs.LentLists.{size_of, list_short, list_large, list_other, met_by, served}
use Rattle.matcher.proofs.Inside.{Passed, passed_whole, passed_by, stopped_by}
use Rattle.matcher.proofs.PlannedAnswers.{judge_refused, judge_unmet, judge_wrong, judge_plain, judge_right}
use Rattle.matcher.proofs.judge_planned.Statement.{statement}
use Rattle.matcher.proofs.judge_planned.Tie as tie

-- what was lent
module _ (s : tie.Start) where
  abbrev xs : (fam : Family) → List (ElementOf fam)
  xs fam = list_of fam s.args.integers.now s.args.floats.now

  abbrev sum : ℕ
  sum = length s.args.integers.now + length s.args.floats.now

  abbrev Listed : Family → Type 0
  Listed fam = Lent fam s.args.integers.now s.args.floats.now

returns : tie.Need-returns-then-template-gt-TEMPLATE_MOST
returns c fam plan lent = let start = c.before.before.before.before in sym (judge_two fam _ (xs start fam) _ c.if-template-gt-TEMPLATE_MOST.true)

add_size : tie.Need-overflow_add-size
add_size c = search rules

returns_2 : tie.Need-returns-then-size-gt-LIST_MOST
returns_2 c fam plan lent = let start = c.before.before.before.before.before in sym (judge_eleven fam _ (xs start fam) _ c.if-template-gt-TEMPLATE_MOST.false (list_large fam _ _ lent 32 c.if-size-gt-LIST_MOST.true))

-- no row of the table before the scan holds
taken : (c : tie.Else-size-gt-LIST_MOST) → let start = c.before.before.before.before.before in (fam : Family) → Listed start fam → Taken start.args.template.now (xs start fam)
taken c fam lent = (c.if-template-gt-TEMPLATE_MOST.false, list_short fam _ _ lent 32 c.if-size-gt-LIST_MOST.false)

returns_3 : tie.Need-returns-then-witness-size
returns_3 c fam plan lent =
    let start = c.before.before.before.before.before.before in
    sym (judge_thirteen fam _ (xs start fam) _ (taken c.before fam lent) (list_other fam _ _ lent _ c.if-witness-size.true))

same_size : (c : tie.Else-witness-size) → let start = c.before.before.before.before.before.before in (fam : Family) → Listed start fam → length start.args.witness.now ≡ length (xs start fam)
same_size c fam lent = c.if-witness-size.false ∙ sym (size_of fam _ _ lent)

returns_4 : tie.Need-returns-then-refusal-ne-DONE
returns_4 c fam plan lent =
    let long = c.before.before.before.before.before in
    judge_refused fam _ _ (taken long.before fam lent) _ plan _ (same_size long fam lent) _ (stopped_by fam _ _ _ _ lent _ c.refusal_by-refusal.ensures plan c.if-refusal-ne-DONE.true)

-- the template is accepted, and no element is outside its type
passed : (c : tie.Joined-sort) → let start = c.before.before.before.before.before.before.before.before.before in (fam : Family) → PlanOf fam start.args.template.now start.args.plan → Listed start fam
    → Passed fam start.args.template.now start.args.plan (xs start fam)
passed c fam plan lent =
    ⊎_elim
    (λ w. passed_by fam _ _ _ _ lent _ w.refusal_by-refusal.ensures plan w.if-refusal-ne-DONE.false)
    (λ w. passed_whole fam _ _ _ _ lent plan w.if-sort.false)
    c.if-sort.branch-raw

refusal_by_requires : tie.Need-refusal_by-refusal-requires
refusal_by_requires c κs = search rules

length_met_requires : tie.Need-length_met-requires
length_met_requires c κs = search rules

returns_5 : tie.Need-returns-then-not-length_met
returns_5 c fam plan lent =
    let zero = c.before.before in
    let long = zero.before.before.before in
    judge_unmet fam _ _ (taken long.before fam lent) _ plan (passed zero fam plan lent) _ (met_by fam _ _ lent _ _ _ c.length_met.ensures) _ (same_size long fam lent) (not-true _ c.if-not-length_met.true-raw)

-- the plan of an accepted template, and a list that is short enough
ready : (c : tie.Joined-sort) → let start = c.before.before.before.before.before.before.before.before.before in Ready start.requires.family start.args.template.now start.args.plan (sum start)
ready c =
    let start = c.before.before.before.before.before.before.before.before.before in
    planned_ready _ _ _ _ start.requires.plan (passed c start.requires.family start.requires.plan start.requires.lent).zero c.if-size-gt-LIST_MOST.false

left_over_requires : tie.Need-left_over-left-requires
left_over_requires c κs =
    let zero = c.before.before.before in
    let start = zero.before.before.before.before.before.before.before.before.before in
    (served _ _ _ _ _ _ (ready zero) refl start.requires.lent, zero.if-witness-size.false)

containment_passes_requires : tie.Need-containment_passes-requires
containment_passes_requires c κs =
    let zero = c.before.before.before.before.before.before.before in
    let start = zero.before.before.before.before.before.before.before.before.before in
    (served _ _ _ _ _ _ (ready zero) refl start.requires.lent, zero.if-witness-size.false)

judged_requires : tie.Need-judged-requires
judged_requires c κs = search rules

returns_6 : tie.Need-returns-then-plan-eq-CONTAINMENT
returns_6 c fam plan lent =
    let passes = c.before in
    let plain = passes.before.before in
    let paired = plain.before.before in
    let met = paired.before.before in
    let zero = met.before.before in
    let long = zero.before.before.before in
    c.judged.ensures ∙ judge_plain fam _ _ (taken long.before fam lent) _ plan (passed zero fam plan lent) _ (met_by fam _ _ lent _ _ _ met.before.length_met.ensures) (not-false _ met.if-not-length_met.false-raw) _ (same_size long fam lent) plain.if-plan-eq-CONTAINMENT.true _ (passes.containment_passes.ensures fam lent)

returns_7 : tie.Need-returns-then-left-eq-WRONG
returns_7 c fam plan lent =
    let paired = c.before.before in
    let met = paired.before.before in
    let zero = met.before.before in
    let long = zero.before.before.before in
    judge_wrong fam _ _ (taken long.before fam lent) _ plan (passed zero fam plan lent) _ (met_by fam _ _ lent _ _ _ met.length_met.ensures) (not-false _ met.if-not-length_met.false-raw) _ (same_size long fam lent) _ (paired.left_over-left.ensures fam lent) c.if-left-eq-WRONG.true c.if-plan-eq-CONTAINMENT.false

body_met_requires : tie.Need-body_met-requires
body_met_requires c κs =
    let zero = c.before.before.before.before.before.before in
    let r = ready zero in
    (r.planned.few_blocks, omega (arith, zero.if-witness-size.false, r.short), ready_inside r)

judged_requires_2 : tie.Need-judged-requires-2
judged_requires_2 c κs = search rules

returns_8 : tie.Need-returns
returns_8 c fam plan lent =
    let asked = c.before in
    let right = asked.before.before in
    let paired = right.before in
    let met = paired.before.before in
    let zero = met.before.before in
    let long = zero.before.before.before in
    c.judged-2.ensures ∙ judge_right fam _ _ (taken long.before fam lent) _ plan (passed zero fam plan lent) _ (met_by fam _ _ lent _ _ _ met.length_met.ensures) (not-false _ met.if-not-length_met.false-raw) _ (same_size long fam lent) _ (paired.left_over-left.ensures fam lent) right.if-left-eq-WRONG.false _ (asked.body_met.ensures fam)

pub judge_planned_spec : {M : Type 1} → statement M
judge_planned_spec =
    tie.close
    (tie.spec
    returns
    add_size
    returns_2
    returns_3
    refusal_by_requires
    returns_4
    length_met_requires
    returns_5
    left_over_requires
    containment_passes_requires
    judged_requires
    returns_6
    returns_7
    body_met_requires
    judged_requires_2
    returns_8)
