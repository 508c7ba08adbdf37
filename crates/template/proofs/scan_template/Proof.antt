-- `template::scan_template` meets its contract: the plan has the number. Assumes nothing.
use mathlib.Core.Path.{◌≡◌, sym, ap, ◌∙◌}
use mathlib.Core.List.{List}
use Prim.Native.Nat.{ℕ}
use native.Mathlib.Omega.{arith}
use Rattle.grammar.specs.Template.{template}
use Rattle.format.specs.declared.Family.{Family}
use Rattle.grammar.specs.Read.{refuse}
use Rattle.grammar.specs.Whole.{read_template}
use Rattle.elements.specs.Contract.{Answered, rejected, accepted}
use Rattle.plans.specs.Plans.{PlanOf, refused_plan, a_plan}
use Rattle.plans.specs.declared.Plan.{Plan}
use borrow.Author.Rules.{rules}
use Rattle.template.proofs.scan_template.Statement.{statement}
use Rattle.template.proofs.scan_template.Tie as tie

plan_answered : (fam : Family) (t : List ℕ) (p : Plan) → PlanOf fam t p → Answered (read_template fam t) p.number
plan_answered fam t p (refused_plan number q l e) = let same : p.number ≡ number = ap (λ (x : Plan). x.number) e in rejected (q ∙ ap refuse (sym same)) (omega arith)
plan_answered fam t p (a_plan a b q z w) = accepted (template a b) q z

plan_of_requires : tie.Need-plan_of-p-requires
plan_of_requires c κs = search rules

returns : tie.Need-returns
returns c = plan_answered _ _ _ c.plan_of-p.ensures

pub scan_template_spec : {M : Type 1} → statement M
scan_template_spec = tie.close (tie.spec plan_of_requires returns)
