-- `items::item::permutation_end` meets its contract: its own faults come first, then its items, which are one block. Assumes nothing.
use mathlib.Core.Path.{sym, ◌∙◌}
use Prim.Native.Nat.{◌+◌}
use native.Mathlib.Omega.{arith}
use Rattle.grammar.proofs.RecordParts.{count_inv}
use Rattle.items.proofs.ItemRecords.{permutation_fault}
use Rattle.items.proofs.MemberPlaces.{stopped_as}
use Rattle.items.proofs.Items.{permutation_noted}
use Rattle.sorts.specs.Sorts.{family_of, lower_of, upper_of, leaves_for}
use borrow.Author.Rules.{rules}
use Rattle.items.proofs.item.permutation_end.Statement.{statement}
use Rattle.items.proofs.item.permutation_end.Tie as tie

count_fault_requires : tie.Need-count_fault-code-requires
count_fault_requires c κs = search rules

refusal_requires : tie.Need-refusal-requires
refusal_requires c κs = search rules

returns : tie.Need-returns-then-code-ne-DONE
returns c =
    let start = c.before.before.before.before in
    let a = start.args in
    let b = c.before.before.count_fault-code in
    (stopped_as b.result (permutation_fault (leaves_for a.sort) a.t.now a.at a.m _ b.ensures c.before.if-code-ne-DONE.true) (omega (arith, c.before.if-code-ne-DONE.true)) (search rules) (omega (arith, c.refusal.ensures)), start.requires.2)

add_group_end : tie.Need-overflow_add-at
add_group_end c = search rules

add_group_end_2 : tie.Need-overflow_add-at-2
add_group_end_2 c = search rules

shared_slice_read_group_end : tie.Need-bounds-t-at
shared_slice_read_group_end c =
    let a = c.before.before.before.before.args in
    omega (arith, (count_inv 1 32 a.t.now a.at (sym c.before.before.count_fault-code.ensures ∙ c.before.if-code-ne-DONE.false)).fits)

cast_group_end : tie.Need-overflow_cast-t
cast_group_end c = omega (arith, c.shared_slice_known-2-1.given (c.before.before.before.before.args.at + 1))

group_end_requires : tie.Need-group_end-requires
group_end_requires c κs =
    let start = c.before.before.before.before.before.before in
    let a = start.args in
    let read = c.before.before.before.before in
    (((count_inv 1 32 a.t.now a.at (sym read.count_fault-code.ensures ∙ c.before.before.before.if-code-ne-DONE.false)).fits, start.requires.0.1), start.requires.1, start.requires.2)

returns_2 : tie.Need-returns
returns_2 c =
    let start = c.before.before.before.before.before.before.before in
    let a = start.args in
    let read = c.before.before.before.before.before in
    (permutation_noted (family_of a.sort) (lower_of a.sort) (upper_of a.sort) a.t.now a.at a.m _ read.count_fault-code.ensures c.before.before.before.before.if-code-ne-DONE.false _ _ _ _ c.group_end.ensures.0, c.group_end.ensures.1)

pub permutation_end_spec : {M : Type 1} → statement M
permutation_end_spec =
    tie.close
    (tie.spec
    count_fault_requires
    refusal_requires
    returns
    add_group_end
    add_group_end_2
    shared_slice_read_group_end
    cast_group_end
    group_end_requires
    returns_2)
