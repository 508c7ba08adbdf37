-- `why_any` meets its contract: a group shows that nothing obeys; without one the number is the matcher's, with a room of 32 bytes. Assumes nothing.
use Rattle.matcher.specs.Contract.{Planning}
use Rattle.why.proofs.NumberAndGroup.{why_group, why_none}
use borrow.Author.Rules.{rules}
use Rattle.why.proofs.why_any.Statement.{statement}
use Rattle.why.proofs.why_any.Tie as tie

plan_of_requires : tie.Need-plan_of-plan-requires
plan_of_requires c κs = search rules

-- the plan is of the sort that was given, and so is the list
planning : (c : tie.After-plan_of-plan) → let start = c.before.before.before in Planning start.args.template.now c.plan_of-plan.result start.args.integers.now start.args.floats.now
planning c = record { family = _; plan = c.plan_of-plan.ensures; lent = c.requires }

group_of_requires : tie.Need-group_of-group-requires
group_of_requires c κs = planning c

returns : tie.Need-returns-then-group-ne0
returns c = let planned = c.before.before in why_group (c.group_of-group.ensures _ planned.plan_of-plan.ensures planned.requires) c.if-group-ne0.true

slice_aggregate_match_planned : tie.Need-slice_bounds-match_planned-end
slice_aggregate_match_planned c = search rules

match_planned_requires : tie.Need-match_planned-number-requires
match_planned_requires c κs = planning c.before.before.before

returns_2 : tie.Need-returns
returns_2 c =
    let looked = c.before.before.before in
    let planned = looked.before.before in
    let lent = planned.requires in
    why_none _ _ _ _ _ _ (λ l. l) (looked.group_of-group.ensures _ planned.plan_of-plan.ensures lent) looked.if-group-ne0.false _ (c.match_planned-number.ensures _ planned.plan_of-plan.ensures lent)

pub why_any_spec : {M : Type 1} → statement M
why_any_spec =
    tie.close
    (tie.spec
    plan_of_requires
    group_of_requires
    returns
    slice_aggregate_match_planned
    match_planned_requires
    returns_2)
