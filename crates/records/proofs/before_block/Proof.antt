-- `before_block` meets its contract: a block with no members moves places, one member is tested, a group is searched for. Assumes nothing.
use native.Mathlib.Omega.{arith}
use Prim.Native.Nat.{◌<◌}
use mathlib.Core.Path.{sym, ◌∙◌}
use Rattle.member_rows.proofs.RowByRow.{element_there, member_inside, served_few, served_fit}
use Rattle.grammar.specs.Family.{list_of}
use Rattle.grammar.proofs.Families.{lent_size}
use Rattle.blocks.proofs.OneMember.{one_parts}
use Rattle.records.proofs.Blocks.{before_spares, before_member, asked_among, member_tested, any_tested, before_group}
use borrow.Author.Rules.{rules}
use Rattle.records.proofs.before_block.Statement.{statement}
use Rattle.records.proofs.before_block.Tie as tie

cast_before_spares : tie.Need-overflow_cast-b
cast_before_spares c = search rules

cast_before_spares_2 : tie.Need-overflow_cast-b-then-b-eq0
cast_before_spares_2 c = search rules

before_spares_requires : tie.Need-before_spares-requires
before_spares_requires c κs = search rules

returns : tie.Need-returns-then-b-eq0
returns c fam lent es s = let p = c.requires in before_spares _ _ _ _ _ p.2 c.if-b-eq0.true c.before_spares.ensures

is_one_requires : tie.Need-is_one-requires
is_one_requires c κs = search rules

cast_first : tie.Need-overflow_cast-first
cast_first c = search rules

mul_at : tie.Need-offset_bounds-places-first
mul_at c = search rules

element_copy_out_at : tie.Need-bounds-places-first
element_copy_out_at c = search rules

-- the one member is among the members
first_low : (c : tie.Then-is_one) → let a = c.args in a.b.first < a.members
first_low c =
    let k = (one_parts _ (sym c.is_one.ensures ∙ c.if-is_one.true)).0 in
    omega (arith, c.requires.3)

cast_at : tie.Need-overflow_cast-at
cast_at c =
    let w = c.requires.0.placed in
    omega (arith, (element_there _ _ _ _ w _ (first_low c.before.before.before)).inside, w.short)

before_one_requires : tie.Need-before_one-asked-requires
before_one_requires c κs = search rules

shared_slice_read_if3 : tie.Need-bounds-t-at
shared_slice_read_if3 c = member_inside _ _ _ _ c.requires.0.placed _ (first_low c.before.before.before.before.before)

cast_result : tie.Need-overflow_cast-result
cast_result c = search rules

-- a 03
returns_2 : tie.Need-returns-then-t-at-eq-ANY
returns_2 c fam lent es s =
    let asked = c.before.before in
    let one = asked.before.before.before.before in
    let start = one.before.before.before.before.before.before in
    let a = start.args in
    let p = start.requires in
    let served = p.0 in
    let low = first_low one in
    before_member _ _ _ _ _ p.2 (sym one.is_one.ensures ∙ one.if-is_one.true) (omega (arith, low, served.placed.few))
    (any_tested fam _ _ _ (served_fit _ _ _ _ _ served) es s (list_of fam a.integers.now a.floats.now) _ _ _ _ (served_few _ _ _ _ _ served) low p.4 asked.before_one-asked.ensures c.if-t-at-eq-ANY.true)

hits_requires : tie.Need-hits-requires
hits_requires c κs =
    let asked = c.before.before in
    let one = asked.before.before.before.before in
    let p = one.requires in
    let served = p.0 in
    record {
      family = served.family;
      here = element_there _ _ _ _ served.placed _ (first_low one);
      short = served.placed.short;
      among = asked_among _ _ _ _ (lent_size served.family _ _ served.lent) p.4 asked.before_one-asked.ensures;
    }

cast_result_2 : tie.Need-overflow_cast-result-then-is_one
cast_result_2 c = search rules

returns_3 : tie.Need-returns-then-is_one
returns_3 c fam lent es s =
    let asked = c.before.before.before in
    let one = asked.before.before.before.before in
    let p = one.requires in
    let served = p.0 in
    let low = first_low one in
    before_member _ _ _ _ _ p.2 (sym one.is_one.ensures ∙ one.if-is_one.true) (omega (arith, low, served.placed.few))
    (member_tested fam _ _ _ (served_fit _ _ _ _ _ served) es s _ _ _ _ _ _ (served_few _ _ _ _ _ served) low p.4 asked.before_one-asked.ensures (c.hits.ensures fam))

mark_group_requires : tie.Need-mark_group-requires
mark_group_requires c κs = let p = c.requires in (p.0, p.1, p.2, p.3)

before_group_requires : tie.Need-before_group-requires
before_group_requires c κs =
    let p = c.requires in
    (omega (arith, p.3, p.0.placed.few), λ e h. let l = p.4 e h in omega (arith, served_few _ _ _ _ _ p.0))

returns_4 : tie.Need-returns
returns_4 c fam lent es s =
    let group = c.before.before.before in
    let p = group.requires in
    before_group _ _ _ _ _ _ _ (sym group.is_one.ensures ∙ group.if-is_one.false) p.4 (c.mark_group.ensures fam lent es s) c.before_group.ensures

pub before_block_spec : {M : Type 1} → statement M
before_block_spec =
    tie.close
    (tie.spec
    cast_before_spares
    cast_before_spares_2
    before_spares_requires
    returns
    is_one_requires
    cast_first
    mul_at
    element_copy_out_at
    cast_at
    before_one_requires
    shared_slice_read_if3
    cast_result
    returns_2
    hits_requires
    cast_result_2
    returns_3
    mark_group_requires
    before_group_requires
    returns_4)
