-- `elements::integer_end` meets its contract: each test of the code is the next test of `leaf_head`. Assumes nothing.
use Rattle.integers.proofs.SignedLocals.{told_order}
use Rattle.elements.proofs.Records.{single_short, single_right, range_short, range_reversed, range_right, any_right, unknown_kind}
use borrow.Author.Rules.{rules}
use Rattle.elements.proofs.integer_end.Statement.{statement}
use Rattle.elements.proofs.integer_end.Tie as tie

shared_slice_read_kind : tie.Need-bounds-t-at
shared_slice_read_kind c = search rules

sub_room : tie.Need-overflow_sub-room
sub_room c = search rules

refusal_requires : tie.Need-refusal-requires
refusal_requires c κs = search rules

returns : tie.Need-returns-then-room-lt-SINGLE_SIZE
returns c =
    let a = c.before.before.before.before.before.args in
    single_short a.t.now a.at c.before.before.if-kind-eq-SINGLE.true _ c.refusal.ensures c.before.if-room-lt-SINGLE_SIZE.true

add_result : tie.Need-overflow_add-result
add_result c = search rules

returns_2 : tie.Need-returns-then-kind-eq-SINGLE
returns_2 c =
    let a = c.before.before.before.before.args in
    single_right a.t.now a.at c.before.if-kind-eq-SINGLE.true c.if-room-lt-SINGLE_SIZE.false

refusal_requires_2 : tie.Need-refusal-requires-then-room-lt-RANGE_SIZE
refusal_requires_2 c κs = search rules

returns_3 : tie.Need-returns-then-room-lt-RANGE_SIZE
returns_3 c =
    let a = c.before.before.before.before.before.before.args in
    range_short a.t.now a.at c.before.before.if-kind-eq-RANGE.true _ c.refusal-then-room-lt-RANGE_SIZE.ensures c.before.if-room-lt-RANGE_SIZE.true

add_int_at : tie.Need-overflow_add-at
add_int_at c = search rules

int_at_requires : tie.Need-int_at-requires
int_at_requires c κs = search rules

add_int_at_2 : tie.Need-overflow_add-at-then-kind-eq-RANGE
add_int_at_2 c = search rules

int_at_requires_2 : tie.Need-int_at-requires-then-kind-eq-RANGE
int_at_requires_2 c κs = search rules

refusal_requires_3 : tie.Need-refusal-requires-then-int_at
refusal_requires_3 c κs = search rules

returns_4 : tie.Need-returns-then-int_at
returns_4 c =
    let p = c.before in
    let a = p.before.before.before.before.before.before.before.before.args in
    range_reversed a.t.now a.at p.before.before.before.before.if-kind-eq-RANGE.true _ c.refusal-then-int_at.ensures p.before.before.before.if-room-lt-RANGE_SIZE.false (told_order _ _ _ _ _ p.if-int_at.true p.before.before.int_at.type_inv p.before.int_at-then-kind-eq-RANGE.type_inv p.before.before.int_at.ensures p.before.int_at-then-kind-eq-RANGE.ensures)

add_result_2 : tie.Need-overflow_add-result-then-kind-eq-RANGE
add_result_2 c = search rules

returns_5 : tie.Need-returns-then-kind-eq-RANGE
returns_5 c =
    let a = c.before.before.before.before.before.before.before.before.args in
    range_right a.t.now a.at c.before.before.before.before.if-kind-eq-RANGE.true c.before.before.before.if-room-lt-RANGE_SIZE.false (told_order _ _ _ _ _ c.if-int_at.false c.before.before.int_at.type_inv c.before.int_at-then-kind-eq-RANGE.type_inv c.before.before.int_at.ensures c.before.int_at-then-kind-eq-RANGE.ensures)

add_result_3 : tie.Need-overflow_add-result-then-kind-eq-ANY
add_result_3 c = search rules

returns_6 : tie.Need-returns-then-kind-eq-ANY
returns_6 c =
    let a = c.before.before.before.before.before.args in
    any_right a.t.now a.at c.if-kind-eq-ANY.true c.before.before.before.before.before.requires.0

refusal_requires_4 : tie.Need-refusal-requires-2
refusal_requires_4 c κs = search rules

returns_7 : tie.Need-returns
returns_7 c =
    let a = c.before.before.before.before.before.before.args in
    unknown_kind a.t.now a.at _ c.refusal-2.ensures c.before.before.before.if-kind-eq-SINGLE.false c.before.before.if-kind-eq-RANGE.false c.before.if-kind-eq-ANY.false

pub integer_end_spec : {M : Type 1} → statement M
integer_end_spec =
    tie.close
    (tie.spec
    shared_slice_read_kind
    sub_room
    refusal_requires
    returns
    add_result
    returns_2
    refusal_requires_2
    returns_3
    add_int_at
    int_at_requires
    add_int_at_2
    int_at_requires_2
    refusal_requires_3
    returns_4
    add_result_2
    returns_5
    add_result_3
    returns_6
    refusal_requires_4
    returns_7)
