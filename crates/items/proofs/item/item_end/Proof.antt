-- `items::item::item_end` meets its contract: the kind says which item it is. Assumes nothing.
use mathlib.Core.Path.{◌≡◌, refl}
use mathlib.Core.Logic.{⊎_elim}
use native.Mathlib.Omega.{arith}
use Rattle.grammar.specs.Template.{one}
use Rattle.items.proofs.ItemRecords.{item_spares, item_permutation, item_member}
use Rattle.items.proofs.MemberPlaces.{noted_as, map_noted}
use Rattle.items.proofs.Groups.{member_read}
use Rattle.items.proofs.Items.{one_item}
use Rattle.sorts.specs.Sorts.{whole, family_of, leaves_for}
use borrow.Author.Rules.{rules}
use Rattle.items.proofs.item.item_end.Statement.{statement}
use Rattle.items.proofs.item.item_end.Tie as tie

kind_at_requires : tie.Need-kind_at-kind-requires
kind_at_requires c κs = search rules

spares_end_requires : tie.Need-spares_end-requires
spares_end_requires c κs = search rules

returns : tie.Need-returns-then-kind-eq-STARS
returns c =
    let start = c.before.before.before.before.before.before in
    let a = start.args in
    let told = c.before.before.before.before in
    (noted_as (item_spares (leaves_for a.sort) a.t.now a.at a.m _ told.kind_at-kind.ensures c.before.before.if-kind-eq-STARS.true) (c.spares_end.ensures (family_of a.sort) a.places.now), start.requires.2)

permutation_end_requires : tie.Need-permutation_end-requires
permutation_end_requires c κs = search rules

returns_2 : tie.Need-returns-then-kind-eq-PERMUTATION
returns_2 c =
    let start = c.before.before.before.before.before.before.before.before in
    let a = start.args in
    let told = c.before.before.before.before.before.before in
    (noted_as (item_permutation (leaves_for a.sort) a.t.now a.at a.m _ told.kind_at-kind.ensures c.before.before.before.if-kind-eq-PERMUTATION.true) c.permutation_end.ensures.0, c.permutation_end.ensures.1)

cast_t14 : tie.Need-overflow_cast-m
cast_t14 c = search rules

number_of_requires : tie.Need-number_of-requires
number_of_requires c κs = search rules

-- what is left is no 20 and no permutation
no_other : (c : tie.Joined-kind-ge-STARS) → (c.before.kind_at-kind.result ≡ 0x20 → ⊥) × (c.before.kind_at-kind.result ≡ 0x21 → ⊥)
no_other c = ⊎_elim (λ w. (w.if-kind-eq-STARS.false, w.if-kind-eq-PERMUTATION.false)) (λ w. (λ e. omega (arith, w.if-kind-ge-STARS.false, e), λ e. omega (arith, w.if-kind-ge-STARS.false, e))) c.if-kind-ge-STARS.branch-raw

integer_member_end_requires : tie.Need-integer_member_end-requires
integer_member_end_requires c κs = search rules

other_member_end_requires : tie.Need-other_member_end-requires
other_member_end_requires c κs = search rules

returns_3 : tie.Need-returns-then-sort-eq-WHOLE
returns_3 c =
    let start = c.before.before.before.before.before.before.before.before in
    let a = start.args in
    let kinds = no_other c.before.before.before.before.before in
    let w = member_read a.sort whole a.t.now a.at a.m a.places.now _ _ c.before.before.if-sort-eq-WHOLE.true c.integer_member_end.ensures in
    (noted_as (item_member (leaves_for a.sort) a.t.now a.at a.m _ c.before.before.before.before.before.before.kind_at-kind.ensures kinds.0 kinds.1) (map_noted one (λ e q h. one_item (family_of a.sort) _ _ _ _ _ e h c.before.before.before.before.number_of.ensures) w.read), w.size)

returns_4 : tie.Need-returns
returns_4 c =
    let start = c.before.before.before.before.before.before.before.before in
    let a = start.args in
    let kinds = no_other c.before.before.before.before.before in
    let w = member_read a.sort a.sort a.t.now a.at a.m a.places.now _ _ refl c.other_member_end.ensures in
    (noted_as (item_member (leaves_for a.sort) a.t.now a.at a.m _ c.before.before.before.before.before.before.kind_at-kind.ensures kinds.0 kinds.1) (map_noted one (λ e q h. one_item (family_of a.sort) _ _ _ _ _ e h c.before.before.before.before.number_of.ensures) w.read), w.size)

pub item_end_spec : {M : Type 1} → statement M
item_end_spec =
    tie.close
    (tie.spec
    kind_at_requires
    spares_end_requires
    returns
    permutation_end_requires
    returns_2
    cast_t14
    number_of_requires
    integer_member_end_requires
    returns_3
    other_member_end_requires
    returns_4)
