-- `template::plan_of` meets its contract: 2 before everything, the heads, the body's record, its items, and 10 after everything. Assumes nothing.
use mathlib.Core.Path.{◌≡◌, refl, sym, ap, ◌∙◌}
use mathlib.Core.Logic.{⊎_elim}
use Prim.Native.Nat.{ℕ, ◌+◌}
use native.Mathlib.Omega.{arith}
use lib.ListN.{get_or}
use borrow.Author.Tests.{lt-ltb, eq-eqb, ne_eqb}
use Rattle.grammar.specs.Whole.{template_here, read_template}
use Rattle.grammar.specs.Blocks.{low_of, high_of}
use Rattle.elements.proofs.WholeInputs.{read_refused}
use Rattle.plans.specs.Plans.{refused_plan}
use Rattle.template.specs.Bodies.{block_count}
use Rattle.template.proofs.Fronts.{Front, heads_refused, body_refused, front_of, front_sorted}
use Rattle.heads.proofs.HeadRecords.{heads_inside}
use Rattle.template.proofs.Bodies.{contents_small, contents_refused, contents_left_over, contents_planned, read_by, kind_read_lem}
use borrow.Author.Rules.{rules}
use Rattle.template.proofs.plan_of.Statement.{statement}
use Rattle.template.proofs.plan_of.Tie as tie

counted_record : (kind n : ℕ) → kind ≡ 0x10 → block_count kind n ≡ n
counted_record kind n e = rw (eq-eqb kind 0x10 e)

counted_one : (kind n : ℕ) → (kind ≡ 0x10 → ⊥) → block_count kind n ≡ 1
counted_one kind n e = rw (ne_eqb kind 0x10 e)

-- what is known where the items are read
front : (c : tie.Else-code-ne-DONE) → Front c.args.family c.args.t.now c.heads_of-heads.result
front c =
    let fam = c.args.family in
    front_of fam _ _ _ c.body_fault-code.ensures c.heads_of-heads.ensures c.if-heads-ne-DONE.false c.if-code-ne-DONE.false

no_plan_requires : tie.Need-no_plan-requires
no_plan_requires c κs = search rules

returns : tie.Need-returns-then-t-gt-TEMPLATE_MOST
unfolding read_template
returns c =
    let a = c.args in
    let fam = a.family in
    let t = a.t.now in
    refused_plan 2 (rw (lt-ltb 4096 _ c.if-t-gt-TEMPLATE_MOST.true)) (omega arith) c.no_plan.ensures

heads_of_requires : tie.Need-heads_of-heads-requires
heads_of_requires c κs = search rules

no_plan_requires_2 : tie.Need-no_plan-requires-then-heads-ne-DONE
no_plan_requires_2 c κs = search rules

returns_2 : tie.Need-returns-then-heads-ne-DONE
unfolding read_template
returns_2 c =
    let told = c.before.before in
    let a = c.args in
    let fam = a.family in
    let t = a.t.now in
    refused_plan _ (read_refused t (template_here fam t) c.if-t-gt-TEMPLATE_MOST.false _ (heads_refused fam t _ told.heads_of-heads.ensures c.if-heads-ne-DONE.true)) (omega (arith, c.if-heads-ne-DONE.true)) c.no_plan-then-heads-ne-DONE.ensures

body_fault_requires : tie.Need-body_fault-code-requires
body_fault_requires c κs =
    let fam = c.args.family in
    heads_inside c.heads_of-heads.ensures c.if-heads-ne-DONE.false

no_plan_requires_3 : tie.Need-no_plan-requires-then-code-ne-DONE
no_plan_requires_3 c κs = search rules

returns_3 : tie.Need-returns-then-code-ne-DONE
unfolding read_template
returns_3 c =
    let told = c.before.before.before.before in
    let a = c.args in
    let fam = a.family in
    let t = a.t.now in
    refused_plan _ (read_refused t (template_here fam t) c.if-t-gt-TEMPLATE_MOST.false _ (body_refused fam t _ _ c.body_fault-code.ensures told.heads_of-heads.ensures c.if-heads-ne-DONE.false c.if-code-ne-DONE.true)) (omega (arith, c.if-code-ne-DONE.true)) c.no_plan-then-code-ne-DONE.ensures

shared_slice_read_kind : tie.Need-bounds-t-at
shared_slice_read_kind c = let f = front c.before in omega (arith, f.fits)

add_n : tie.Need-overflow_add-n
add_n c = let f = front c.before in omega (arith, f.fits, c.if-t-gt-TEMPLATE_MOST.false)

shared_slice_read_n : tie.Need-bounds-t-at-2
shared_slice_read_n c = let f = front c.before.before in omega (arith, f.fits)

cast_n : tie.Need-overflow_cast-n
cast_n c = omega (arith, c.shared_slice_known-3-1.given (c.heads_of-heads.result.next + 1))

add_contents_end : tie.Need-overflow_add-at
add_contents_end c = let f = front c.before.before.before in omega (arith, f.fits, c.if-t-gt-TEMPLATE_MOST.false)

contents_end_requires : tie.Need-contents_end-end-requires
contents_end_requires c κs =
    let f = front c.before.before.before.before.before in
    ((f.fits, omega (arith, c.if-t-gt-TEMPLATE_MOST.false)), f.low, f.high, f.few, refl, refl)

sub_no_plan : tie.Need-overflow_sub-end
sub_no_plan c = search rules

cast_no_plan : tie.Need-overflow_cast-end
cast_no_plan c =
    let a = c.args in
    let e = c.before.before.before.before.before.before.before in
    let f = front e in
    omega (arith, contents_small a.family a.t.now _ _ _ _ _ _ _ f.reads (read_by a.family _ _ _ (front_sorted _ _ _ f) a.t.now (e.heads_of-heads.result.next + 2) _ _ c.contents_end-end.result _ _ c.contents_end-end.ensures) c.if-t-gt-TEMPLATE_MOST.false)

no_plan_requires_4 : tie.Need-no_plan-requires-then-end-gt-FAULT
no_plan_requires_4 c κs = search rules

returns_4 : tie.Need-returns-then-end-gt-FAULT
returns_4 c =
    let a = c.args in
    let read = c.before.before in
    let e = c.before.before.before.before.before.before.before.before in
    let f = front e in
    refused_plan _ (contents_refused a.family a.t.now _ _ _ _ _ _ _ f.reads (read_by a.family _ _ _ (front_sorted _ _ _ f) a.t.now (e.heads_of-heads.result.next + 2) _ _ read.contents_end-end.result _ _ read.contents_end-end.ensures) c.if-t-gt-TEMPLATE_MOST.false c.if-end-gt-FAULT.true) (omega (arith, c.if-end-gt-FAULT.true)) c.no_plan-then-end-gt-FAULT.ensures

no_plan_requires_5 : tie.Need-no_plan-requires-then-end-t
no_plan_requires_5 c κs = search rules

returns_5 : tie.Need-returns-then-end-t
returns_5 c =
    let a = c.args in
    let read = c.before.before.before in
    let e = c.before.before.before.before.before.before.before.before.before in
    let f = front e in
    refused_plan 10 (contents_left_over a.family a.t.now _ _ _ _ _ _ _ f.reads (read_by a.family _ _ _ (front_sorted _ _ _ f) a.t.now (e.heads_of-heads.result.next + 2) _ _ read.contents_end-end.result _ _ read.contents_end-end.ensures) c.if-t-gt-TEMPLATE_MOST.false c.if-end-gt-FAULT.false c.if-end-t.true) (omega arith) c.no_plan-then-end-t.ensures

kind_read_requires : tie.Need-kind_read-requires
kind_read_requires c κs = search rules

returns_6 : tie.Need-returns
returns_6 c =
    let a = c.args in
    let read = c.before.before.before.before in
    let e = c.before.before.before.before.before.before.before.before.before.before in
    let f = front e in
    let count = ⊎_elim (λ w. w.result-is ∙ sym (counted_record _ _ w.if-kind-eq-RECORD_OF.true)) (λ w. w.result-is ∙ sym (counted_one _ _ w.if-kind-eq-RECORD_OF.false)) c.if-kind-eq-RECORD_OF.branch-raw in
    contents_planned a.family a.t.now _ _ _ _ _ _ _ f.reads (read_by a.family _ _ _ (front_sorted _ _ _ f) a.t.now (e.heads_of-heads.result.next + 2) _ _ read.contents_end-end.result _ _ read.contents_end-end.ensures) c.if-t-gt-TEMPLATE_MOST.false c.if-end-gt-FAULT.false c.if-end-t.false f.few _ _ _ _ (ap low_of f.says.attribute ∙ f.says.bounds.lower) (ap high_of f.says.attribute ∙ f.says.bounds.upper) f.says.sort count _ (λ b q. c.kind_read.ensures ∙ kind_read_lem f.heads e.heads_of-heads.result.plain (get_or a.t.now e.heads_of-heads.result.next 0) f.says.sheet b q)

pub plan_of_spec : {M : Type 1} → statement M
plan_of_spec =
    tie.close
    (tie.spec
    no_plan_requires
    returns
    heads_of_requires
    no_plan_requires_2
    returns_2
    body_fault_requires
    no_plan_requires_3
    returns_3
    shared_slice_read_kind
    add_n
    shared_slice_read_n
    cast_n
    add_contents_end
    contents_end_requires
    sub_no_plan
    cast_no_plan
    no_plan_requires_4
    returns_4
    no_plan_requires_5
    returns_5
    kind_read_requires
    returns_6)
