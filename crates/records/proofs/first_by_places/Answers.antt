-- `first_by_places`: from the last block to the first, and where the first is a group on from there.
use Rattle.std.proofs.Common.{◌≡◌, true, ℕ, ◌+◌, ◌-◌, ◌≤◌, ◌<◌, Fits, w8, List, length, get_or, take, set, refl, sym, ◌∙◌, subst, arith, rules}
use mathlib.Core.Logic.{◌⊎◌, ⊎_elim}
use lib.ListN.{length-set}
use Rattle.grammar.specs.Element.{Elem}
use Rattle.format.specs.declared.Family.{Family}
use Rattle.grammar.specs.Family.{LeafOf, list_of, Lent}
use Rattle.grammar.specs.Blocks.{Standing}
use Rattle.member_rows.specs.Contract.{pair_of}
use Rattle.member_rows.specs.Places.{Served}
use Rattle.member_rows.proofs.RowByRow.{served_few}
use Rattle.blocks.specs.declared.Block.{Block}
use Rattle.blocks.specs.Numbers.{block_in}
use Rattle.places.proofs.Backward.{ways_low}
use Rattle.fronts.specs.Given.{Known, is_group}
use Rattle.records.specs.Records.{left_out}
use Rattle.records.proofs.Blocks.{left_most, left_first}
use Rattle.records.proofs.Loop.{Going, going_start, going_step, gone_step, gone_known, below_at, below_inside, prepares, no_cut}
use Rattle.records.proofs.first_by_places.Goals as goal

pub widened-wide-requires : goal.widened-wide-requires
widened-wide-requires c = omega (arith, served_few _ _ _ _ _ c.requires.0)

pub with_place-good-requires : goal.with_place-good-requires
with_place-good-requires c = omega (arith, served_few _ _ _ _ _ c.requires.0)

pub loop-j-init : goal.loop-j-init
loop-j-init c = (λ fam lent es s. going_start _ _ _ _ _ c.with_place-good.ensures, refl, λ l. l)

pub before_block-good-requires : goal.before_block-good-requires
before_block-good-requires c =
    let served = c.requires.0 in
    let i = c.loop-j.j - 1 in
    let inside : i < c.args.count = omega (arith, c.loop-j-test.true) in
    let going = c.loop-j.invariant.0 served.family served.lent served.placed.who served.placed.stands in
    (served, c.widened-wide.ensures, going.gone.size, rw c.block_at-b.ensures (below_at _ _ _ i inside c.requires.2), ways_low going.ways)

pub loop-j-preserved : goal.loop-j-preserved
loop-j-preserved c =
    let i = c.loop-j.invariant in
    let low = c.loop-j-test.true in (
      λ fam lent es s. going_step _ _ _ _ _ _ _ _ _ (i.0 fam lent es s) _ c.block_at-b.ensures (omega (arith, low)) (omega arith) i.1 c.requires.1 _ _ (c.before_block-good.ensures fam lent es s),
      length-set c.loop-j.ends (c.loop-j.j - 1) c.loop-j.good ∙ i.1,
      λ l. omega (arith, low),
    )

-- ---- the first block is a group, and is left
group_first : (b d : Block) {last count j : ℕ} → b ≡ d → last ≡ left_out b → (last ≡ 0 → ⊥) → (last ≤ count → last ≤ j) → j ≤ last → 0 < count → (j ≡ 1) × (is_group d ≡ true)
group_first b d {last} {count} {j} is named some kept down more =
    let most = left_most b in
    let one : last ≡ 1 = omega arith in
    (omega (arith, kept (omega arith)), subst (λ x. is_group x ≡ true) is (left_first b (omega arith)))

pub mark_group-requires : goal.mark_group-requires
mark_group-requires c =
    let served = c.requires.0 in
    let some : 0 < c.args.count = omega (arith, c.if-count-ne0.true) in
    let going = c.loop-j.invariant.0 served.family served.lent served.placed.who served.placed.stands in
    (served, c.widened-wide.ensures, going.gone.size, rw c.block_at-b-then-count-ne0.ensures (below_at _ _ _ 0 some c.requires.2))

pub overflow_cast-n : goal.overflow_cast-n
overflow_cast-n c = let few = served_few _ _ _ _ _ c.requires.0 in omega arith

pub first_cut_by_group-requires : goal.first_cut_by_group-requires
first_cut_by_group-requires c =
    let p = c.requires in
    let served = p.0 in
    let i = c.loop-j.invariant in
    let some : 0 < c.args.count = omega (arith, c.if-count-ne0.true) in
    let g = group_first _ _ c.block_at.ensures c.left_out-last.ensures c.if-last-ne0.true i.2 c.loop-j-test.false some in
    let known = gone_known _ _ _ _ _ _ (gone_step _ _ _ _ _ 0 _ _ _ (i.0 served.family served.lent served.placed.who served.placed.stands) _ c.block_at-b-then-count-ne0.ensures g.0 c.loop-j.auto.j i.1 p.1 _ (c.mark_group.ensures served.family served.lent served.placed.who served.placed.stands)) in
    (some, p.1, served_few _ _ _ _ _ served, below_inside _ _ served.placed.few p.2, g.1, record { may = _; known = known })

pub returns-then-count-ne0 : goal.returns-then-count-ne0
returns-then-count-ne0 c fam lent es s =
    let i = c.loop-j.invariant in
    let some : 0 < c.args.count = omega (arith, c.if-count-ne0.true) in
    let g = group_first _ _ c.block_at.ensures c.left_out-last.ensures c.if-last-ne0.true i.2 c.loop-j-test.false some in
    c.first_cut_by_group.ensures _ (gone_known _ _ _ _ _ _ (gone_step _ _ _ _ _ 0 _ _ _ (i.0 fam lent es s) _ c.block_at-b-then-count-ne0.ensures g.0 c.loop-j.auto.j i.1 c.requires.1 _ (c.mark_group.ensures fam lent es s)))

-- ---- all blocks are gone through
all_gone : {j last count : ℕ} → (((last ≡ 0 → ⊥) × (count ≡ 0)) ⊎ (last ≡ 0)) → j ≤ last → j ≤ count → j ≡ 0
all_gone {j} {last} {count} either down few = ⊎_elim (λ (p : (last ≡ 0 → ⊥) × (count ≡ 0)). omega (arith, p.1)) (λ (q : last ≡ 0). omega arith) either

pub returns-then-not-has_place : goal.returns-then-not-has_place
returns-then-not-has_place c fam lent es s =
    let z = all_gone c.else-last-ne0.either c.loop-j-test.false c.loop-j.auto.j in
    no_cut _ _ _ _ _ _ _ (rw z at c.loop-j.invariant.0 fam lent es s) (sym c.has_place.ensures ∙ search rules) _ refl

pub overflow_cast-n-2 : goal.overflow_cast-n-2
overflow_cast-n-2 c = let few = served_few _ _ _ _ _ c.requires.0 in omega arith

pub first_cut_from-requires : goal.first_cut_from-requires
first_cut_from-requires c =
    let p = c.requires in
    let served = p.0 in
    let z = all_gone c.else-last-ne0.either c.loop-j-test.false c.loop-j.auto.j in
    let ready = prepares _ _ _ _ _ _ _ (rw z at c.loop-j.invariant.0 served.family served.lent served.placed.who served.placed.stands) (sym c.has_place.ensures ∙ search rules) in
    (p.1, served_few _ _ _ _ _ served, below_inside _ _ served.placed.few p.2, record { may = _; prepares = ready })

pub returns : goal.returns
returns c fam lent es s =
    let z = all_gone c.else-last-ne0.either c.loop-j-test.false c.loop-j.auto.j in
    c.first_cut_from.ensures _ (prepares _ _ _ _ _ _ _ (rw z at c.loop-j.invariant.0 fam lent es s) (sym c.has_place.ensures ∙ search rules))
