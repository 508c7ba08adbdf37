-- `intake_lines::input_plan` meets its contract: its tests are the definition's, in the same order. Assumes nothing.
use Rattle.intake_lines.proofs.Headers.{header_over, header_fault, header_long, header_missing, header_planned}
use borrow.Author.Rules.{rules}
use Rattle.intake_lines.proofs.input_plan.Statement.{statement}
use Rattle.intake_lines.proofs.input_plan.Tie as tie

no_plan_requires : tie.Need-no_plan-requires
no_plan_requires c κs = search rules

returns : tie.Need-returns-then-input-gt-INPUT_MOST
returns c =
    header_over c.args.input.now _ c.if-input-gt-INPUT_MOST.true c.no_plan.ensures

record_fault_requires : tie.Need-record_fault-code-requires
record_fault_requires c κs = search rules

no_plan_requires_2 : tie.Need-no_plan-requires-then-code-ne-DONE
no_plan_requires_2 c κs = search rules

returns_2 : tie.Need-returns-then-code-ne-DONE
returns_2 c =
    let at_fault = c.before.before in
    let at_if1 = at_fault.before in
    header_fault at_if1.args.input.now _ at_fault.record_fault-code.result at_if1.if-input-gt-INPUT_MOST.false at_fault.record_fault-code.ensures c.if-code-ne-DONE.true c.no_plan-then-code-ne-DONE.ensures

template_end_requires : tie.Need-template_end-end-requires
template_end_requires c κs =
    let at_if1 = c.before.before.before.before in
    header_long at_if1.args.input.now _ c.record_fault-code.ensures c.if-code-ne-DONE.false

no_plan_requires_3 : tie.Need-no_plan-requires-then-input-end
no_plan_requires_3 c κs = search rules

returns_3 : tie.Need-returns-then-input-end
returns_3 c =
    let at_end = c.before.before in
    let at_if2 = at_end.before in
    let at_fault = at_if2.before in
    let at_if1 = at_fault.before in
    header_missing at_if1.args.input.now _ at_fault.record_fault-code.result at_if1.if-input-gt-INPUT_MOST.false at_fault.record_fault-code.ensures at_if2.if-code-ne-DONE.false at_end.template_end-end.result at_end.template_end-end.ensures c.if-input-end.true c.no_plan-then-input-end.ensures

sub_plan_of : tie.Need-slice_bounds-plan_of-count
sub_plan_of c = search rules

part_plan_of_start : tie.Need-slice_bounds-plan_of-start
part_plan_of_start c = search rules

part_plan_of_end : tie.Need-slice_bounds-plan_of-end
part_plan_of_end c = search rules

plan_of_requires : tie.Need-plan_of-requires
plan_of_requires c κs = search rules

returns_4 : tie.Need-returns
returns_4 c =
    let at_if3 = c.before.before in
    let at_end = at_if3.before in
    let at_if2 = at_end.before in
    let at_fault = at_if2.before in
    let at_if1 = at_fault.before in
    header_planned at_if1.args.input.now _ at_fault.record_fault-code.result at_if1.if-input-gt-INPUT_MOST.false at_fault.record_fault-code.ensures at_if2.if-code-ne-DONE.false at_end.template_end-end.result at_end.template_end-end.ensures at_if3.if-input-end.false c.plan_of.ensures

pub input_plan_spec : {M : Type 1} → statement M
input_plan_spec =
    tie.close
    (tie.spec
    no_plan_requires
    returns
    record_fault_requires
    no_plan_requires_2
    returns_2
    template_end_requires
    no_plan_requires_3
    returns_3
    sub_plan_of
    part_plan_of_start
    part_plan_of_end
    plan_of_requires
    returns_4)
