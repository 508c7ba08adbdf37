-- `matcher::judge_any` meets its contract: the plan is of the sort that was given. Assumes nothing.
use borrow.Author.Rules.{rules}
use Rattle.matcher.proofs.judge_any.Statement.{statement}
use Rattle.matcher.proofs.judge_any.Tie as tie

plan_of_requires : tie.Need-plan_of-plan-requires
plan_of_requires c κs = search rules

judge_planned_requires : tie.Need-judge_planned-requires
judge_planned_requires c κs = record { family = _; plan = c.plan_of-plan.ensures; lent = c.requires }

returns : tie.Need-returns
returns c = c.judge_planned.ensures _ c.plan_of-plan.ensures c.requires

pub judge_any_spec : {M : Type 1} → statement M
judge_any_spec = tie.close (tie.spec plan_of_requires judge_planned_requires returns)
