-- `matcher::match_any` meets its contract: the plan is of the sort that was given. Assumes nothing.
use borrow.Author.Rules.{rules}
use Rattle.matcher.proofs.match_any.Statement.{statement}
use Rattle.matcher.proofs.match_any.Tie as tie

plan_of_requires : tie.Need-plan_of-plan-requires
plan_of_requires c κs = search rules

match_planned_requires : tie.Need-match_planned-requires
match_planned_requires c κs = record { family = _; plan = c.plan_of-plan.ensures; lent = c.requires }

same_length : tie.Need-shape_of-room
same_length c = search rules

returns : tie.Need-returns
returns c = let planned = c.before.before.before.before in c.match_planned.ensures _ planned.plan_of-plan.ensures planned.requires

pub match_any_spec : {M : Type 1} → statement M
match_any_spec = tie.close (tie.spec plan_of_requires match_planned_requires same_length returns)
