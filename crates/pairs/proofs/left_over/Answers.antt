-- A byte that names no member, none that is left, or one that does not match is the end; else its pair is right, and its member is left no longer. Assumes nothing.
use Rattle.std.proofs.Common.{refl, sym, ap, ◌∙◌, subst, ℕ, arith, rules, get_or}
use Rattle.facts.specs.Counting.{between}
use Rattle.format.specs.declared.Family.{Family}
use Rattle.grammar.specs.Family.{no_element, list_of}
use Rattle.element_match.specs.Contract.{OneHit}
use Rattle.element_match.proofs.Walks.{any_one, leaf_again, integer_one, float_only, integer_at, float_at_lem, integers_listed, floats_listed}
use Rattle.member_rows.proofs.RowByRow.{places_count}
use Rattle.pairs.specs.Pairs.{Paired, wrong}
use Rattle.pairs.proofs.ByteByByte.{going_start, going_spare, going_member, stop_high, stop_gone, stop_miss, going_end}
use Rattle.pairs.proofs.Turns as turns
use Rattle.pairs.proofs.left_over.Goals as goal
use Rattle.pairs.proofs.left_over.Goals.{then-x+else-x-ge-MEMBERS_MOST+else-not-has+else-not-right, then-kind-lt-ANY, else-kind-lt-ANY+then-kind-eq-ANY, else-kind-lt-ANY+else-kind-eq-ANY+then-kind-gt-COMPLEMENT, else-kind-lt-ANY+else-kind-eq-ANY+else-kind-gt-COMPLEMENT, else-x}

pub loop-e-init : goal.loop-e-init
loop-e-init c fam lent es s =
    going_start fam es _ _ _ (λ m. c.span-left.ensures m ∙ ap (λ (k : ℕ). between 0 k m) (sym (places_count fam _ _ _ (turns.fit c.args.w.now c.requires.0 c.requires.1) es s)))

pub returns-then-x-ge-MEMBERS_MOST : goal.returns-then-x-ge-MEMBERS_MOST
returns-then-x-ge-MEMBERS_MOST c fam lent es s =
    let served = c.requires.0 in
    let long = c.requires.1 in
    wrong (stop_high fam es _ _ _ _ (c.loop-e.invariant fam lent es s) (turns.size _ served long fam lent) (turns.low _ served long fam lent _ c.loop-e-test.true) (turns.few _ served long fam es s) c.if-x-ge-MEMBERS_MOST.true c.if-x.true) refl

pub returns-then-not-has : goal.returns-then-not-has
returns-then-not-has c fam lent es s =
    let served = c.requires.0 in
    let long = c.requires.1 in
    wrong (stop_gone fam es _ _ _ _ (c.loop-e.invariant fam lent es s) (turns.size _ served long fam lent) (turns.low _ served long fam lent _ c.loop-e-test.true) (turns.few _ served long fam es s) (sym c.if-not-has.ensures) c.if-x.true) refl

pub bounds-t-at : goal.bounds-t-at
bounds-t-at c =
    let served = c.requires.0 in
    let long = c.requires.1 in
    turns.inside _ served long _ (turns.left_member _ served long _ _ _ c.loop-e.invariant (sym c.if-not-has.ensures))

pub bounds-integers-e : goal.bounds-integers-e
bounds-integers-e c =
    let served = c.requires.0 in
    let long = c.requires.1 in
    let member = turns.left_member _ served long _ _ _ c.loop-e.invariant (sym c.if-not-has.ensures) in
    integers_listed _ _ _ _ _ _ (turns.there _ served long _ member) c.if-kind-lt-ANY.true (turns.low _ served long served.family served.lent _ c.loop-e-test.true)

pub leaf_hit-right-requires : goal.leaf_hit-right-requires
leaf_hit-right-requires c =
    let served = c.requires.0 in
    let long = c.requires.1 in
    let member = turns.left_member _ served long _ _ _ c.loop-e.invariant (sym c.if-not-has.ensures) in
    integer_at _ _ _ (turns.there _ served long _ member) c.if-kind-lt-ANY.true

pub bounds-floats-e : goal.bounds-floats-e
bounds-floats-e c =
    let served = c.requires.0 in
    let long = c.requires.1 in
    let member = turns.left_member _ served long _ _ _ c.loop-e.invariant (sym c.if-not-has.ensures) in
    floats_listed _ _ _ _ _ _ (turns.there _ served long _ member) c.if-kind-gt-COMPLEMENT.true (turns.low _ served long served.family served.lent _ c.loop-e-test.true)

pub float_hit-requires : goal.float_hit-requires
float_hit-requires c =
    let served = c.requires.0 in
    let long = c.requires.1 in
    let member = turns.left_member _ served long _ _ _ c.loop-e.invariant (sym c.if-not-has.ensures) in
    float_at_lem _ _ _ (turns.there _ served long _ member) c.if-kind-gt-COMPLEMENT.true

pub hit-requires : goal.hit-requires
hit-requires c =
    let served = c.requires.0 in
    let long = c.requires.1 in
    let member = turns.left_member _ served long _ _ _ c.loop-e.invariant (sym c.if-not-has.ensures) in
    record {
      family = served.family;
      here = turns.there _ served long _ member;
      short = served.placed.short;
      inside = turns.low _ served long served.family served.lent _ c.loop-e-test.true;
      few = turns.short _ served long _ c.loop-e-test.true;
    }

pub returns-then-not-right : goal.returns-then-not-right
returns-then-not-right c fam lent es s =
    let served = c.requires.0 in
    let long = c.requires.1 in
    let member = turns.left_member _ served long _ _ _ c.loop-e.invariant (sym c.if-not-has.ensures) in
    let tested : (f : Family) → OneHit f c.args.t.now (get_or c.args.places.now (get_or c.args.w.now c.loop-e.e 0) 0) (get_or (list_of f c.args.integers.now c.args.floats.now) c.loop-e.e (no_element f)) c.if-kind-lt-ANY.right =
    elim c.if-kind-lt-ANY.branch [
      | then-kind-lt-ANY v ↦ rw v.right-is (integer_one _ _ _ _ _ _ v.if-kind-lt-ANY.true (leaf_again _ _ _ _ (search rules) v.leaf_hit-right.ensures))
      | else-kind-lt-ANY+then-kind-eq-ANY v ↦ rw v.right-is (λ f. any_one f _ _ _ v.if-kind-eq-ANY.true)
      | else-kind-lt-ANY+else-kind-eq-ANY+then-kind-gt-COMPLEMENT v ↦ rw v.right-is (float_only _ _ _ _ _ _ v.if-kind-gt-COMPLEMENT.true v.float_hit.ensures)
      | else-kind-lt-ANY+else-kind-eq-ANY+else-kind-gt-COMPLEMENT v ↦ rw v.right-is v.hit.ensures
    ] in
    wrong
    (stop_miss fam es _ _ _ _ (c.loop-e.invariant fam lent es s) (turns.size _ served long fam lent) (turns.low _ served long fam lent _ c.loop-e-test.true) (turns.few _ served long fam es s)
    (turns.told _ served long _ _ member _ tested fam es s ∙ c.if-not-right.true)
    c.if-x.true)
    refl

pub loop-e-preserved : goal.loop-e-preserved
loop-e-preserved c fam lent es s =
    let served = c.requires.0 in
    let long = c.requires.1 in
    let going = c.loop-e.invariant fam lent es s in
    let size = turns.size _ served long fam lent in
    let low = turns.low _ served long fam lent _ c.loop-e-test.true in
    let few = turns.few _ served long fam es s in
    elim c.if-x.branch [
      | then-x+else-x-ge-MEMBERS_MOST+else-not-has+else-not-right w ↦
          let here = sym w.if-not-has.ensures in
          let member = turns.left_member _ served long _ _ _ c.loop-e.invariant here in
          let tested : (f : Family) → OneHit f c.args.t.now (get_or c.args.places.now (get_or c.args.w.now c.loop-e.e 0) 0) (get_or (list_of f c.args.integers.now c.args.floats.now) c.loop-e.e (no_element f)) w.if-kind-lt-ANY.right =
          elim w.if-kind-lt-ANY.branch [
            | then-kind-lt-ANY v ↦ rw v.right-is (integer_one _ _ _ _ _ _ v.if-kind-lt-ANY.true (leaf_again _ _ _ _ (search rules) v.leaf_hit-right.ensures))
            | else-kind-lt-ANY+then-kind-eq-ANY v ↦ rw v.right-is (λ f. any_one f _ _ _ v.if-kind-eq-ANY.true)
            | else-kind-lt-ANY+else-kind-eq-ANY+then-kind-gt-COMPLEMENT v ↦ rw v.right-is (float_only _ _ _ _ _ _ v.if-kind-gt-COMPLEMENT.true v.float_hit.ensures)
            | else-kind-lt-ANY+else-kind-eq-ANY+else-kind-gt-COMPLEMENT v ↦ rw v.right-is v.hit.ensures
          ] in
          rw w.left-is (going_member fam es _ _ _ _ going size low few _ here w.flip-left.ensures (turns.told _ served long _ _ member _ tested fam es s ∙ w.if-not-right.false))
      | else-x w ↦ rw w.left-is (going_spare fam es _ _ _ _ going size low few w.if-x.false)
    ]

pub returns : goal.returns
returns c fam lent es s =
    let size = turns.size _ c.requires.0 c.requires.1 fam lent in
    subst (λ (r : ℕ). Paired fam es (list_of fam c.args.integers.now c.args.floats.now) c.args.w.now r) (sym c.said.ensures)
    (going_end fam es _ _ _ _ size (omega (arith, size)) (c.loop-e.invariant fam lent es s))
