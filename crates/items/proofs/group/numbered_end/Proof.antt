-- `items::group::numbered_end` meets its contract: a 33rd member is found at its first record, after that record's own faults; of any other
-- the place is noted. Assumes nothing.
use mathlib.Core.Path.{refl, ◌∙◌}
use native.Mathlib.Omega.{arith}
use lib.ListN.{length-set}
use lib.Seq.{take-set-le}
use Rattle.elements.specs.Contract.{stopped}
use Rattle.items.proofs.ItemRecords.{member_fault, member_over}
use Rattle.items.proofs.MemberPlaces.{stopped_as}
use Rattle.items.proofs.Groups.{member_noted}
use Rattle.sorts.specs.Sorts.{family_of, lower_of, upper_of, leaves_for}
use borrow.Author.Rules.{rules}
use Rattle.items.proofs.group.numbered_end.Statement.{statement}
use Rattle.items.proofs.group.numbered_end.Tie as tie

returns : tie.Need-returns-then-end-gt-FAULT
returns c =
    let start = c.before.before in
    let a = start.args in
    let v = member_fault (leaves_for a.sort) a.t.now a.at a.m _ start.requires.0.1 start.requires.1 c.if-end-gt-FAULT.true in
    (stopped v.0 (omega (arith, c.if-end-gt-FAULT.true)) v.1, start.requires.2, refl)

refusal_requires : tie.Need-refusal-requires
refusal_requires c κs = search rules

returns_2 : tie.Need-returns-then-m-gt-LAST_MEMBER
returns_2 c =
    let start = c.before.before.before.before in
    let a = start.args in
    (stopped_as 8 (member_over (leaves_for a.sort) a.t.now a.at a.m _ start.requires.0.1 start.requires.1 c.before.before.if-end-gt-FAULT.false c.before.if-m-gt-LAST_MEMBER.true) (omega arith) (omega arith) (omega (arith, c.refusal.ensures)), start.requires.2, refl)

rest_end_requires : tie.Need-rest_end-rest-requires
rest_end_requires c κs = search rules

cast_places : tie.Need-overflow_cast-places
cast_places c = search rules

mul_places : tie.Need-offset_bounds-places-m
mul_places c = search rules

element_write_places : tie.Need-bounds-places-m
element_write_places c = search rules

returns_3 : tie.Need-returns
returns_3 c =
    let start = c.before.before.before.before in
    let a = start.args in
    let w = start.requires in
    (member_noted (family_of a.sort) (lower_of a.sort) (upper_of a.sort) a.t.now a.at a.m _ a.places.now w.0.0 c.before.if-m-gt-LAST_MEMBER.false w.2 c.rest_end-rest.ensures, length-set a.places.now a.m a.at ∙ w.2, take-set-le a.m a.places.now a.m a.at (omega arith))

pub numbered_end_spec : {M : Type 1} → statement M
numbered_end_spec =
    tie.close
    (tie.spec
    returns
    refusal_requires
    returns_2
    rest_end_requires
    cast_places
    mul_places
    element_write_places
    returns_3)
