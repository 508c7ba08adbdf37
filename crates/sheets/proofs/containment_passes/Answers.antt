-- `containment_passes`: a member that does not match its element, or that is none, is seen at its element.
use Rattle.std.proofs.Common.{◌≡◌, ◌<◌, refl, sym, length, ◌∙◌, arith, rules}
use Rattle.facts.proofs.Cases.{clash}
use Rattle.grammar.specs.Family.{list_of}
use Rattle.grammar.proofs.Families.{lent_size}
use Rattle.member_rows.proofs.RowByRow.{places_fit, element_there, member_inside, told_hit}
use Rattle.blocks.proofs.FirstLists.{passing_true, passing_false}
use Rattle.sheets.proofs.LeastMembers.{given_start, given_more, given_contains}
use Rattle.sheets.proofs.containment_passes.Goals as goal

pub loop-e-init : goal.loop-e-init
loop-e-init c fam lent es s = given_start

-- no member has that number
pub returns-then-members-x : goal.returns-then-members-x
returns-then-members-x c fam lent es s = passing_false (λ h. omega (arith, c.if-members-x.true, h.member _ c.loop-e-test.true))

pub bounds-places-x : goal.bounds-places-x
bounds-places-x c = omega (arith, c.if-members-x.false, c.requires.0.placed.few)

pub overflow_cast-at : goal.overflow_cast-at
overflow_cast-at c = omega (arith, member_inside _ _ _ _ c.requires.0.placed _ c.if-members-x.false, c.requires.0.placed.short)

pub hit-requires : goal.hit-requires
hit-requires c =
    let served = c.requires.0 in
    let low : c.loop-e.e < length (list_of served.family c.args.integers.now c.args.floats.now) = omega (arith, c.loop-e-test.true, c.requires.1, lent_size served.family _ _ served.lent) in
    record { family = served.family; here = element_there _ _ _ _ served.placed _ c.if-members-x.false; short = served.placed.short; inside = low; few = omega (arith, low, served.few) }

-- the member does not match
pub returns-then-not-hit : goal.returns-then-not-hit
returns-then-not-hit c fam lent es s =
    let told = told_hit fam _ _ _ (places_fit _ _ _ _ c.requires.0.placed) es s _ _ _ c.if-members-x.false (c.hit.ensures fam) in
    passing_false (λ h. clash (h.right _ c.loop-e-test.true) (told ∙ search rules))

pub loop-e-preserved : goal.loop-e-preserved
loop-e-preserved c fam lent es s =
    let told = told_hit fam _ _ _ (places_fit _ _ _ _ c.requires.0.placed) es s _ _ _ c.if-members-x.false (c.hit.ensures fam) in
    given_more (c.loop-e.invariant fam lent es s) c.if-members-x.false (told ∙ search rules)

pub returns : goal.returns
returns c fam lent es s =
    let g = c.loop-e.invariant fam lent es s in
    let done : c.loop-e.e ≡ length c.args.w.now = omega (arith, c.loop-e-test.false) in
    passing_true (given_contains refl (rw done at g))
