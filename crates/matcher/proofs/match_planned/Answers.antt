-- `matcher::match_planned`: each test of the code is the next row of `match_answer`.
use Rattle.std.proofs.Common.{◌≡◌, ℕ, ◌+◌, List, length, take, replicate, true, false, refl, sym, subst, arith, rules}
use Rattle.format.specs.declared.Family.{Family}
use Rattle.grammar.specs.Element.{Elem}
use Rattle.grammar.specs.Family.{LeafOf, list_of, Lent}
use Rattle.grammar.specs.Blocks.{Standing}
use Rattle.blocks.specs.Numbers.{blocks_in}
use Rattle.blocks.specs.Pieces.{Best, bytes_of}
use Rattle.member_rows.specs.Contract.{pair_of}
use Rattle.witnesses.specs.ByKind.{Allows}
use Rattle.plans.specs.Plans.{PlanOf}
use Rattle.matching.specs.Answer.{Taken}
use Rattle.matching.proofs.Answers.{match_two, match_eleven, match_twelve}
use Rattle.matcher.specs.Contract.{Copied}
use Rattle.matcher.proofs.ByPlan.{planned_ready, ready_below, ready_alone}
use Rattle.matcher.proofs.LentLists.{size_of, list_short, list_large, met_by, served}
use Rattle.matcher.proofs.Inside.{Passed, passed_whole, passed_by, stopped_by}
use Rattle.matcher.proofs.PlannedAnswers.{match_refused, match_unmet, match_none, match_found}
use Rattle.matcher.proofs.match_planned.Goals as goal
use Rattle.matcher.proofs.match_planned.Goals.{then-sort+else-number-ne-DONE, else-sort}

pub returns-then-template-gt-TEMPLATE_MOST : goal.returns-then-template-gt-TEMPLATE_MOST
returns-then-template-gt-TEMPLATE_MOST c fam plan lent = sym (match_two fam _ (list_of fam c.args.integers.now c.args.floats.now) _ c.if-template-gt-TEMPLATE_MOST.true)

pub returns-then-n-gt-LIST_MOST : goal.returns-then-n-gt-LIST_MOST
returns-then-n-gt-LIST_MOST c fam plan lent =
    sym (match_eleven fam _ (list_of fam c.args.integers.now c.args.floats.now) _ c.if-template-gt-TEMPLATE_MOST.false (list_large fam _ _ lent 32 c.if-n-gt-LIST_MOST.true))

pub returns-then-room-n : goal.returns-then-room-n
returns-then-room-n c fam plan lent =
    sym (match_twelve fam _ (list_of fam c.args.integers.now c.args.floats.now) _ (c.if-template-gt-TEMPLATE_MOST.false, list_short fam _ _ lent 32 c.if-n-gt-LIST_MOST.false) (list_large fam _ _ lent _ c.if-room-n.true))

pub returns-then-number-ne-DONE : goal.returns-then-number-ne-DONE
returns-then-number-ne-DONE c fam plan lent =
    let taken : Taken c.args.template.now (list_of fam c.args.integers.now c.args.floats.now) = (c.if-template-gt-TEMPLATE_MOST.false, list_short fam _ _ lent 32 c.if-n-gt-LIST_MOST.false) in
    match_refused fam _ _ taken _ plan _ (list_short fam _ _ lent _ c.if-room-n.false) _ (stopped_by fam _ _ _ _ lent _ c.refusal_by-number.ensures plan c.if-number-ne-DONE.true)

-- the template is accepted, and no element is outside its type
pub returns-then-not-length_met : goal.returns-then-not-length_met
returns-then-not-length_met c fam plan lent =
    let taken : Taken c.args.template.now (list_of fam c.args.integers.now c.args.floats.now) = (c.if-template-gt-TEMPLATE_MOST.false, list_short fam _ _ lent 32 c.if-n-gt-LIST_MOST.false) in
    let passed : Passed fam c.args.template.now c.args.plan (list_of fam c.args.integers.now c.args.floats.now) = elim c.if-sort.branch [
      | then-sort+else-number-ne-DONE w ↦ passed_by fam _ _ _ _ lent _ w.refusal_by-number.ensures plan w.if-number-ne-DONE.false
      | else-sort w ↦ passed_whole fam _ _ _ _ lent plan w.if-sort.false
    ] in
    match_unmet fam _ _ taken _ plan passed _ (met_by fam _ _ lent _ _ _ c.length_met.ensures) _ (list_short fam _ _ lent _ c.if-room-n.false) (search rules)

pub first_witness-requires : goal.first_witness-requires
first_witness-requires c =
    let fam = c.requires.family in
    let plan = c.requires.plan in
    let lent = c.requires.lent in
    let passed : Passed fam c.args.template.now c.args.plan (list_of fam c.args.integers.now c.args.floats.now) = elim c.if-sort.branch [
      | then-sort+else-number-ne-DONE w ↦ passed_by fam _ _ _ _ lent _ w.refusal_by-number.ensures plan w.if-number-ne-DONE.false
      | else-sort w ↦ passed_whole fam _ _ _ _ lent plan w.if-sort.false
    ] in
    let r = planned_ready _ _ _ _ plan passed.zero c.if-n-gt-LIST_MOST.false in
    (served _ _ _ _ _ _ r refl lent, r.planned.few_blocks, ready_below r, ready_alone r)

pub returns-in_default : goal.returns-in_default
returns-in_default c fam plan lent =
    let xs = list_of fam c.args.integers.now c.args.floats.now in
    let taken : Taken c.args.template.now (list_of fam c.args.integers.now c.args.floats.now) = (c.if-template-gt-TEMPLATE_MOST.false, list_short fam _ _ lent 32 c.if-n-gt-LIST_MOST.false) in
    let passed : Passed fam c.args.template.now c.args.plan (list_of fam c.args.integers.now c.args.floats.now) = elim c.if-sort.branch [
      | then-sort+else-number-ne-DONE w ↦ passed_by fam _ _ _ _ lent _ w.refusal_by-number.ensures plan w.if-number-ne-DONE.false
      | else-sort w ↦ passed_whole fam _ _ _ _ lent plan w.if-sort.false
    ] in
    let best : (es : List (Elem (LeafOf fam))) → Standing fam c.args.template.now es (take c.args.plan.members c.args.plan.places)
    → Best (Allows c.args.plan.kind (blocks_in (take c.args.plan.count c.args.plan.blocks)) c.args.plan.members (pair_of fam es xs) (length xs)) (length xs) false (replicate 32 255)
    = λ es s. subst (λ (n : ℕ). Best (Allows c.args.plan.kind (blocks_in (take c.args.plan.count c.args.plan.blocks)) c.args.plan.members (pair_of fam es xs) n) n false (replicate 32 255)) (sym (size_of fam _ _ lent)) (c.in_default.ensures fam lent es s) in
    match_none fam _ _ taken _ plan passed _ (met_by fam _ _ lent _ _ _ c.length_met.ensures) (search rules) _ _ best _ (list_short fam _ _ lent _ c.if-room-n.false) refl

pub returns : goal.returns
returns c fam plan lent =
    let xs = list_of fam c.args.integers.now c.args.floats.now in
    let taken : Taken c.args.template.now (list_of fam c.args.integers.now c.args.floats.now) = (c.if-template-gt-TEMPLATE_MOST.false, list_short fam _ _ lent 32 c.if-n-gt-LIST_MOST.false) in
    let passed : Passed fam c.args.template.now c.args.plan (list_of fam c.args.integers.now c.args.floats.now) = elim c.if-sort.branch [
      | then-sort+else-number-ne-DONE w ↦ passed_by fam _ _ _ _ lent _ w.refusal_by-number.ensures plan w.if-number-ne-DONE.false
      | else-sort w ↦ passed_whole fam _ _ _ _ lent plan w.if-sort.false
    ] in
    let best : (es : List (Elem (LeafOf fam))) → Standing fam c.args.template.now es (take c.args.plan.members c.args.plan.places)
    → Best (Allows c.args.plan.kind (blocks_in (take c.args.plan.count c.args.plan.blocks)) c.args.plan.members (pair_of fam es xs) (length xs)) (length xs) true c.in-Some.w
    = λ es s. subst (λ (n : ℕ). Best (Allows c.args.plan.kind (blocks_in (take c.args.plan.count c.args.plan.blocks)) c.args.plan.members (pair_of fam es xs) n) n true c.in-Some.w) (sym (size_of fam _ _ lent)) (c.in-Some.ensures fam lent es s) in
    match_found fam _ _ taken _ plan passed _ (met_by fam _ _ lent _ _ _ c.length_met.ensures) (search rules) _ _ best _ (list_short fam _ _ lent _ c.if-room-n.false) refl _
    (subst (λ (n : ℕ). Copied n c.in-Some.w c.args.room.now c.write_witness.new.room) (sym (size_of fam _ _ lent)) c.write_witness.ensures)
