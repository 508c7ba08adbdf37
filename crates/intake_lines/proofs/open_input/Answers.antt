-- The refusal's line, or the place after the template and its plan.
use Rattle.std.proofs.Common.{arith}
use Rattle.intake_lines.proofs.Headers.{headed_refused, headed_number, headed_long, headed_found}
use Rattle.intake_lines.proofs.open_input.Goals as goal

pub returns-then-plan-ne-DONE : goal.returns-then-plan-ne-DONE
returns-then-plan-ne-DONE c =
    headed_number _ _ _ _ _ (headed_refused c.args.input.now _ _ _ _ c.input_plan-plan.ensures c.if-plan-ne-DONE.true c.put_line-wrote.ensures)

pub template_end-requires : goal.template_end-requires
template_end-requires c = let h = headed_long c.args.input.now _ c.input_plan-plan.ensures c.if-plan-ne-DONE.false in omega arith

pub returns : goal.returns
returns c = headed_found c.args.input.now _ c.args.out.now c.template_end.result c.input_plan-plan.ensures c.if-plan-ne-DONE.false c.template_end.ensures
