-- `items::item::spares_end` meets its contract: the 20 has a block of no members. Assumes nothing.
use native.Mathlib.Omega.{arith}
use Rattle.grammar.specs.Whole.{as_spares}
use Rattle.elements.proofs.Scans.{noted_read}
use Rattle.items.proofs.MemberPlaces.{map_noted, stopped_on}
use Rattle.items.proofs.Items.{spares_item}
use borrow.Author.Rules.{rules}
use Rattle.items.proofs.item.spares_end.Statement.{statement}
use Rattle.items.proofs.item.spares_end.Tie as tie

star_end_requires : tie.Need-star_end-end-requires
star_end_requires c κs = search rules

returns : tie.Need-returns-then-end-gt-FAULT
returns c =
    λ fam places. map_noted as_spares (λ st q v. v) (stopped_on c.before.star_end-end.ensures (omega (arith, c.if-end-gt-FAULT.true)))

cast_t8 : tie.Need-overflow_cast-m
cast_t8 c = search rules

add_t9 : tie.Need-overflow_add-at
add_t9 c = search rules

shared_slice_read_t11 : tie.Need-bounds-t-at
shared_slice_read_t11 c =
    let start = c.before.before.before.before in
    let v = noted_read _ _ _ _ _ c.before.before.star_end-end.ensures (omega (arith, c.before.if-end-gt-FAULT.false)) in
    omega (arith, v.2.size, v.3)

add_t12 : tie.Need-overflow_add-at-2
add_t12 c = search rules

shared_slice_read_t14 : tie.Need-bounds-t-at-2
shared_slice_read_t14 c =
    let v = noted_read _ _ _ _ _ c.before.before.before.star_end-end.ensures (omega (arith, c.before.before.if-end-gt-FAULT.false)) in
    omega (arith, v.2.size, v.3)

number_of_requires : tie.Need-number_of-requires
number_of_requires c κs = search rules

returns_2 : tie.Need-returns
returns_2 c =
    λ fam places. map_noted as_spares (λ st q v. spares_item fam _ _ _ _ _ places st v c.number_of.ensures) c.before.before.before.before.star_end-end.ensures

pub spares_end_spec : {M : Type 1} → statement M
spares_end_spec =
    tie.close
    (tie.spec
    star_end_requires
    returns
    cast_t8
    add_t9
    shared_slice_read_t11
    add_t12
    shared_slice_read_t14
    number_of_requires
    returns_2)
