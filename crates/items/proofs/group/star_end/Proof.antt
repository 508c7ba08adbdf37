-- `items::group::star_end` meets its contract: its own faults come first, then a second 20. Assumes nothing.
use native.Mathlib.Omega.{arith}
use Rattle.items.proofs.ItemRecords.{star_fault, star_again, star_right}
use Rattle.items.proofs.MemberPlaces.{stopped_as}
use borrow.Author.Rules.{rules}
use Rattle.items.proofs.group.star_end.Statement.{statement}
use Rattle.items.proofs.group.star_end.Tie as tie

bounds_fault_requires : tie.Need-bounds_fault-code-requires
bounds_fault_requires c κs = search rules

refusal_requires : tie.Need-refusal-requires
refusal_requires c κs = search rules

returns : tie.Need-returns-then-code-ne-DONE
returns c =
    let a = c.before.before.before.before.args in
    let b = c.before.before.bounds_fault-code in
    stopped_as b.result (star_fault a.t.now a.at a.seen b.result b.ensures c.before.if-code-ne-DONE.true) (omega (arith, c.before.if-code-ne-DONE.true)) (search rules) (omega (arith, c.refusal.ensures))

refusal_requires_2 : tie.Need-refusal-requires-then-seen
refusal_requires_2 c κs = search rules

returns_2 : tie.Need-returns-then-seen
returns_2 c =
    let a = c.before.before.before.before.before.args in
    let b = c.before.before.before.bounds_fault-code in
    stopped_as 8 (star_again a.t.now a.at a.seen b.result b.ensures c.before.before.if-code-ne-DONE.false c.before.if-seen.true) (omega arith) (omega arith) (omega (arith, c.refusal-then-seen.ensures))

add_result : tie.Need-overflow_add-result
add_result c = search rules

returns_3 : tie.Need-returns
returns_3 c =
    let start = c.before.before.before.before in
    let a = start.args in
    star_right a.t.now a.at a.seen c.before.before.bounds_fault-code.result c.before.before.bounds_fault-code.ensures c.before.if-code-ne-DONE.false c.if-seen.false start.requires.1

pub star_end_spec : {M : Type 1} → statement M
star_end_spec =
    tie.close
    (tie.spec
    bounds_fault_requires
    refusal_requires
    returns
    refusal_requires_2
    returns_2
    add_result
    returns_3)
