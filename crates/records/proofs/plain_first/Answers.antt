-- `plain_first`: each element is tested on its own member, whichever test its kind has.
use Rattle.std.proofs.Common.{◌≡◌, ◌+◌, ◌≤◌, ◌<◌, Bool, List, length, get_or, take, refl, sym, ◌∙◌, subst, arith, rules}
use Rattle.grammar.specs.Element.{Elem}
use Rattle.format.specs.declared.Family.{Family}
use Rattle.grammar.specs.Family.{LeafOf, no_element, list_of, Lent}
use Rattle.grammar.proofs.Families.{lent_size}
use Rattle.grammar.specs.Blocks.{Standing}
use Rattle.element_match.specs.Contract.{OneHit}
use Rattle.element_match.proofs.Walks.{any_one, leaf_again, integer_one, float_only, integer_at, float_at_lem, integers_listed, floats_listed}
use Rattle.member_rows.specs.Places.{Served}
use Rattle.member_rows.proofs.RowByRow.{element_there, member_inside, served_few, served_fit, told_hit}
use Rattle.member_rows.specs.Contract.{pair_of}
use Rattle.records.proofs.PlainCuts.{Tested, tested_start, tested_step, other_length, one_missed, all_tested}
use Rattle.records.proofs.plain_first.Goals as goal
use Rattle.records.proofs.plain_first.Goals.{then-kind-lt-ANY, else-kind-lt-ANY+then-kind-eq-ANY, else-kind-lt-ANY+else-kind-eq-ANY+then-kind-gt-COMPLEMENT, else-kind-lt-ANY+else-kind-eq-ANY+else-kind-gt-COMPLEMENT}

pub returns-then-n-count : goal.returns-then-n-count
returns-then-n-count c fam lent es vs s plain = other_length _ _ _ vs plain (omega (arith, c.requires.1, c.requires.0.placed.few)) _ refl c.if-n-count.true

pub loop-e-init : goal.loop-e-init
loop-e-init c fam lent es s = tested_start _

pub bounds-t-at : goal.bounds-t-at
bounds-t-at c = member_inside _ _ _ _ c.requires.0.placed _ (omega (arith, c.loop-e-test.true, c.if-n-count.false, c.requires.1))

pub bounds-integers-e : goal.bounds-integers-e
bounds-integers-e c =
    let served = c.requires.0 in
    let inside : c.loop-e.e < length (list_of served.family c.args.integers.now c.args.floats.now) = omega (arith, lent_size served.family _ _ served.lent, c.loop-e-test.true) in
    integers_listed _ _ _ _ _ _ (element_there _ _ _ _ served.placed _ (omega (arith, c.loop-e-test.true, c.if-n-count.false, c.requires.1))) c.if-kind-lt-ANY.true inside

pub leaf_hit-right-requires : goal.leaf_hit-right-requires
leaf_hit-right-requires c = integer_at _ _ _ (element_there _ _ _ _ c.requires.0.placed _ (omega (arith, c.loop-e-test.true, c.if-n-count.false, c.requires.1))) c.if-kind-lt-ANY.true

pub bounds-floats-e : goal.bounds-floats-e
bounds-floats-e c =
    let served = c.requires.0 in
    let inside : c.loop-e.e < length (list_of served.family c.args.integers.now c.args.floats.now) = omega (arith, lent_size served.family _ _ served.lent, c.loop-e-test.true) in
    floats_listed _ _ _ _ _ _ (element_there _ _ _ _ served.placed _ (omega (arith, c.loop-e-test.true, c.if-n-count.false, c.requires.1))) c.if-kind-gt-COMPLEMENT.true inside

pub float_hit-requires : goal.float_hit-requires
float_hit-requires c = float_at_lem _ _ _ (element_there _ _ _ _ c.requires.0.placed _ (omega (arith, c.loop-e-test.true, c.if-n-count.false, c.requires.1))) c.if-kind-gt-COMPLEMENT.true

pub hit-requires : goal.hit-requires
hit-requires c =
    let served = c.requires.0 in
    let member : c.loop-e.e < c.args.members = omega (arith, c.loop-e-test.true, c.if-n-count.false, c.requires.1) in
    record {
      family = served.family;
      here = element_there _ _ _ _ served.placed _ member;
      short = served.placed.short;
      inside = omega (arith, lent_size served.family _ _ served.lent, c.loop-e-test.true);
      few = omega (arith, member, served.placed.few);
    }

pub returns-then-not-right : goal.returns-then-not-right
returns-then-not-right c fam lent es vs s plain =
    let a = c.args in
    let hit : (fam : Family) → OneHit fam a.t.now (get_or a.places.now c.loop-e.e 0) (get_or (list_of fam a.integers.now a.floats.now) c.loop-e.e (no_element fam)) c.if-kind-lt-ANY.right =
    elim c.if-kind-lt-ANY.branch [
      | then-kind-lt-ANY w ↦ rw w.right-is (integer_one _ _ _ _ _ _ w.if-kind-lt-ANY.true (leaf_again _ _ _ _ (search rules) w.leaf_hit-right.ensures))
      | else-kind-lt-ANY+then-kind-eq-ANY w ↦ rw w.right-is (λ fam. any_one fam _ _ _ w.if-kind-eq-ANY.true)
      | else-kind-lt-ANY+else-kind-eq-ANY+then-kind-gt-COMPLEMENT w ↦ rw w.right-is (float_only _ _ _ _ _ _ w.if-kind-gt-COMPLEMENT.true w.float_hit.ensures)
      | else-kind-lt-ANY+else-kind-eq-ANY+else-kind-gt-COMPLEMENT w ↦ rw w.right-is w.hit.ensures
    ] in
    let told = told_hit fam _ _ _ (served_fit _ _ _ _ _ c.requires.0) es s _ _ _ (omega (arith, c.loop-e-test.true, c.if-n-count.false, c.requires.1)) (hit fam) in
    one_missed _ _ _ vs plain (omega (arith, c.requires.1, c.requires.0.placed.few)) _ _ refl (omega (arith, c.loop-e-test.true, c.if-n-count.false)) (told ∙ search rules)

pub loop-e-preserved : goal.loop-e-preserved
loop-e-preserved c fam lent es s =
    let a = c.args in
    let hit : (fam : Family) → OneHit fam a.t.now (get_or a.places.now c.loop-e.e 0) (get_or (list_of fam a.integers.now a.floats.now) c.loop-e.e (no_element fam)) c.if-kind-lt-ANY.right =
    elim c.if-kind-lt-ANY.branch [
      | then-kind-lt-ANY w ↦ rw w.right-is (integer_one _ _ _ _ _ _ w.if-kind-lt-ANY.true (leaf_again _ _ _ _ (search rules) w.leaf_hit-right.ensures))
      | else-kind-lt-ANY+then-kind-eq-ANY w ↦ rw w.right-is (λ fam. any_one fam _ _ _ w.if-kind-eq-ANY.true)
      | else-kind-lt-ANY+else-kind-eq-ANY+then-kind-gt-COMPLEMENT w ↦ rw w.right-is (float_only _ _ _ _ _ _ w.if-kind-gt-COMPLEMENT.true w.float_hit.ensures)
      | else-kind-lt-ANY+else-kind-eq-ANY+else-kind-gt-COMPLEMENT w ↦ rw w.right-is w.hit.ensures
    ] in
    let told = told_hit fam _ _ _ (served_fit _ _ _ _ _ c.requires.0) es s _ _ _ (omega (arith, c.loop-e-test.true, c.if-n-count.false, c.requires.1)) (hit fam) in
    tested_step _ _ _ (omega (arith, c.loop-e-test.true, served_few _ _ _ _ _ c.requires.0)) (told ∙ search rules) (c.loop-e.invariant fam lent es s)

pub returns : goal.returns
returns c fam lent es vs s plain =
    let a = c.args in
    let e : c.loop-e.e ≡ a.count = omega (arith, c.loop-e-test.false, c.loop-e.auto.e-end, c.if-n-count.false) in
    all_tested _ _ _ vs plain (omega (arith, c.requires.1, c.requires.0.placed.few)) _ c.if-n-count.false (subst (λ x. Tested (pair_of fam es (list_of fam a.integers.now a.floats.now)) x c.loop-e.w) e (c.loop-e.invariant fam lent es s))
