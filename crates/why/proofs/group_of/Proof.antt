-- `group_of` meets its contract: no group where a row of the table holds, the length is not met or the kind is another; else by the rows. Assumes nothing.
use mathlib.Core.Path.{refl, sym, ◌∙◌}
use Prim.Native.Nat.{◌+◌}
use native.Mathlib.Omega.{arith}
use borrow.Author.Rules.{rules}
use borrow.Author.Tests.{not-true, not-false}
use lib.ListN.{length}
use Rattle.format.specs.declared.Family.{Family}
use Rattle.grammar.specs.Family.{list_of, Lent}
use Rattle.plans.specs.Plans.{PlanOf}
use Rattle.matcher.proofs.ByPlan.{Ready, planned_ready}
use Rattle.matcher.proofs.Inside.{Passed, passed_by, stopped_by}
use Rattle.matcher.proofs.LentLists.{size_of, list_large, served}
use Rattle.why.proofs.Grouping.{group_many, group_refused, group_unmet, group_other, group_superset, group_subset, neither, the_other}
use Rattle.why.proofs.group_of.Statement.{statement}
use Rattle.why.proofs.group_of.Tie as tie

-- an accepted template, and no element is outside its type
passed : (c : tie.Else-refusal_by-ne-DONE) → let start = c.before.before.before.before.before.before in
    (fam : Family) → PlanOf fam start.args.template.now start.args.plan → Lent fam start.args.integers.now start.args.floats.now
    → Passed fam start.args.template.now start.args.plan (list_of fam start.args.integers.now start.args.floats.now)
passed c fam plan lent = passed_by fam _ _ _ _ lent _ c.refusal_by.ensures plan c.if-refusal_by-ne-DONE.false

-- its plan, and a list that is short enough
ready : (c : tie.Else-refusal_by-ne-DONE) → let start = c.before.before.before.before.before.before in
    Ready start.requires.family start.args.template.now start.args.plan (length start.args.integers.now + length start.args.floats.now)
ready c =
    let start = c.before.before.before.before.before.before in
    planned_ready _ _ _ _ start.requires.plan (passed c start.requires.family start.requires.plan start.requires.lent).zero c.if-size-gt-LIST_MOST.false

add_size : tie.Need-overflow_add-size
add_size c = search rules

returns : tie.Need-returns-then-size-gt-LIST_MOST
returns c fam plan lent = group_many fam _ _ (list_large fam _ _ lent 32 c.if-size-gt-LIST_MOST.true)

refusal_by_requires : tie.Need-refusal_by-requires
refusal_by_requires c κs = search rules

returns_2 : tie.Need-returns-then-refusal_by-ne-DONE
returns_2 c fam plan lent = group_refused fam _ _ _ _ (stopped_by fam _ _ _ _ lent _ c.refusal_by.ensures plan c.if-refusal_by-ne-DONE.true)

length_met_requires : tie.Need-length_met-requires
length_met_requires c κs = search rules

returns_3 : tie.Need-returns-then-not-length_met
returns_3 c fam plan lent =
    let zero = c.before.before in
    group_unmet fam _ _ _ _ (size_of fam _ _ lent) zero.if-size-gt-LIST_MOST.false plan (passed zero fam plan lent) _ c.length_met.ensures (not-true _ c.if-not-length_met.true-raw)

is_explained_requires : tie.Need-is_explained-requires
is_explained_requires c κs = search rules

returns_4 : tie.Need-returns-then-not-is_explained
returns_4 c fam plan lent =
    let met = c.before.before in
    let zero = met.before.before in
    let no = neither _ (sym c.is_explained.ensures ∙ not-true _ c.if-not-is_explained.true-raw) in
    group_other fam _ _ _ _ (size_of fam _ _ lent) zero.if-size-gt-LIST_MOST.false plan (passed zero fam plan lent) _ met.length_met.ensures (not-false _ met.if-not-length_met.false-raw) no.0 no.1

cast_k : tie.Need-overflow_cast-k
cast_k c = let l = (ready c.before.before.before.before).planned.few_members in omega arith

cast_n : tie.Need-overflow_cast-n
cast_n c = search rules

rows_of_requires : tie.Need-rows_of-rows-requires
rows_of_requires c κs =
    let zero = c.before.before.before.before.before in
    served _ _ _ _ _ _ (ready zero) refl zero.requires.lent

reason_requires : tie.Need-reason-requires
reason_requires c κs = let r = ready c.before.before.before.before.before.before.before.before in (r.planned.few_members, r.short)

returns_5 : tie.Need-returns-then-kind-eq-SUPERSET
returns_5 c fam plan lent =
    let arm = c.before.before in
    let marked = arm.before in
    let explained = marked.before.before in
    let met = explained.before.before in
    let zero = met.before.before in
    group_superset fam _ _ _ _ (size_of fam _ _ lent) zero.if-size-gt-LIST_MOST.false plan (passed zero fam plan lent) _ met.length_met.ensures (not-false _ met.if-not-length_met.false-raw) _ (marked.rows_of-rows.ensures fam lent) _ arm.if-kind-eq-SUPERSET.true c.reason.ensures

exchanged_reason_requires : tie.Need-exchanged_reason-requires
exchanged_reason_requires c κs = let r = ready c.before.before.before.before.before.before.before.before in (r.planned.few_members, r.short)

returns_6 : tie.Need-returns
returns_6 c fam plan lent =
    let arm = c.before.before in
    let marked = arm.before in
    let explained = marked.before.before in
    let met = explained.before.before in
    let zero = met.before.before in
    let kind = the_other _ (sym explained.is_explained.ensures ∙ not-false _ explained.if-not-is_explained.false-raw) arm.if-kind-eq-SUPERSET.false in
    group_subset fam _ _ _ _ (size_of fam _ _ lent) zero.if-size-gt-LIST_MOST.false plan (passed zero fam plan lent) _ met.length_met.ensures (not-false _ met.if-not-length_met.false-raw) _ (marked.rows_of-rows.ensures fam lent) _ kind c.exchanged_reason.ensures

pub group_of_spec : {M : Type 1} → statement M
group_of_spec =
    tie.close
    (tie.spec
    add_size
    returns
    refusal_by_requires
    returns_2
    length_met_requires
    returns_3
    is_explained_requires
    returns_4
    cast_k
    cast_n
    rows_of_requires
    reason_requires
    returns_5
    exchanged_reason_requires
    returns_6)
