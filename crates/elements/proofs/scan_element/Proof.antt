-- `elements::scan_element` meets its contract. Assumes nothing.
use native.Mathlib.Omega.{arith}
use Rattle.grammar.specs.Reading.{read_element}
use Rattle.elements.proofs.Scans.{head_stops, head_ended, noted_small}
use Rattle.elements.proofs.WholeInputs.{too_long_lem, answer_refused, answer_left_over, answer_accepted, uncounted_ended}
use borrow.Author.Rules.{rules}
use Rattle.elements.proofs.scan_element.Statement.{statement}
use Rattle.elements.proofs.scan_element.Tie as tie

returns : tie.Need-returns-then-t-gt-TEMPLATE_MOST
unfolding read_element
returns c = too_long_lem c.before.before.args.t.now _ c.if-t-gt-TEMPLATE_MOST.true

head_end_requires : tie.Need-head_end-head-requires
head_end_requires c κs = search rules

sub_result : tie.Need-overflow_sub-result
sub_result c = search rules

cast_result : tie.Need-overflow_cast-result
cast_result c =
    let v = head_stops _ _ _ _ (omega (arith, c.before.before.if-t-gt-TEMPLATE_MOST.false)) c.before.head_end-head.ensures c.if-head-gt-FAULT.true in
    omega (arith, v.1)

returns_2 : tie.Need-returns-then-head-gt-FAULT
unfolding read_element
returns_2 c =
    answer_refused c.before.before.before.before.args.t.now _ c.before.before.if-t-gt-TEMPLATE_MOST.false _ _ _ (uncounted_ended _ _ _ (head_ended c.before.before.before.before.args.sort _ 0 _ (omega (arith, c.before.before.if-t-gt-TEMPLATE_MOST.false)) c.before.head_end-head.ensures c.if-head-gt-FAULT.true)) (omega (arith, c.if-head-gt-FAULT.true))

rest_end_requires : tie.Need-rest_end-end-requires
rest_end_requires c κs = search rules

sub_result_2 : tie.Need-overflow_sub-result-then-end-gt-FAULT
sub_result_2 c = search rules

cast_result_2 : tie.Need-overflow_cast-result-then-end-gt-FAULT
cast_result_2 c = omega (arith, noted_small _ _ _ _ _ c.before.rest_end-end.ensures)

returns_3 : tie.Need-returns-then-end-gt-FAULT
unfolding read_element
returns_3 c =
    answer_refused c.before.before.before.before.before.before.args.t.now _ c.before.before.before.before.if-t-gt-TEMPLATE_MOST.false _ _ _ (uncounted_ended _ _ _ c.before.rest_end-end.ensures) (omega (arith, c.if-end-gt-FAULT.true))

returns_4 : tie.Need-returns-then-end-t
unfolding read_element
returns_4 c =
    answer_left_over c.before.before.before.before.before.before.before.args.t.now _ c.before.before.before.before.before.if-t-gt-TEMPLATE_MOST.false _ _ _ (uncounted_ended _ _ _ c.before.before.rest_end-end.ensures) (omega (arith, c.before.if-end-gt-FAULT.false)) c.if-end-t.true

returns_5 : tie.Need-returns
unfolding read_element
returns_5 c =
    answer_accepted c.before.before.before.before.before.before.before.args.t.now _ c.before.before.before.before.before.if-t-gt-TEMPLATE_MOST.false _ _ _ (uncounted_ended _ _ _ c.before.before.rest_end-end.ensures) (omega (arith, c.before.if-end-gt-FAULT.false)) c.if-end-t.false

pub scan_element_spec : {M : Type 1} → statement M
scan_element_spec =
    tie.close
    (tie.spec
    returns
    head_end_requires
    sub_result
    cast_result
    returns_2
    rest_end_requires
    sub_result_2
    cast_result_2
    returns_3
    returns_4
    returns_5)
