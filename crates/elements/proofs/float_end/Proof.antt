-- `elements::float_end` meets its contract: each test of the code is the next test of `float_head`. Assumes nothing.
use mathlib.Core.Path.{◌≡◌}
use lib.Ieee.{Float}
use Rattle.floats.specs.declared.Bounds.{Bounds}
use Rattle.elements.proofs.FloatRecords.{one_short, one_fault_lem, one_right, bounds_short, bounds_fault_lem, bounds_right, any_float, unknown_float}
use borrow.Author.Rules.{rules}
use Rattle.elements.proofs.float_end.Statement.{statement}
use Rattle.elements.proofs.float_end.Tie as tie

-- two floats that were read, as bounds
two : (a b p q : Float) → a ≡ p → b ≡ q → ◌≡◌ {A = Bounds} (record { lower = a; upper = b }) (record { lower = p; upper = q })
two a b p q e f = rw (e, f)

shared_slice_read_kind : tie.Need-bounds-t-at
shared_slice_read_kind c = search rules

sub_room : tie.Need-overflow_sub-room
sub_room c = search rules

refusal_requires : tie.Need-refusal-requires
refusal_requires c κs = search rules

returns : tie.Need-returns-then-room-lt-FLOAT_SIZE
returns c =
    let a = c.before.before.before.before.before.args in
    one_short a.t.now a.at c.before.before.if-kind-eq-FLOAT.true _ c.refusal.ensures c.before.if-room-lt-FLOAT_SIZE.true

add_float_at : tie.Need-overflow_add-at
add_float_at c = search rules

float_at_requires : tie.Need-float_at-requires
float_at_requires c κs = search rules

one_fault_requires : tie.Need-one_fault-code-requires
one_fault_requires c κs = search rules

refusal_requires_2 : tie.Need-refusal-requires-then-code-ne-DONE
refusal_requires_2 c κs = search rules

returns_2 : tie.Need-returns-then-code-ne-DONE
returns_2 c =
    let a = c.before.before.before.before.before.before.before.before.args in
    one_fault_lem a.t.now a.at c.before.before.before.before.before.if-kind-eq-FLOAT.true c.before.before.before.before.if-room-lt-FLOAT_SIZE.false _ _ c.before.before.one_fault-code.ensures c.before.before.before.float_at.ensures _ c.refusal-then-code-ne-DONE.ensures c.before.if-code-ne-DONE.true (search rules)

add_result : tie.Need-overflow_add-result
add_result c = search rules

returns_3 : tie.Need-returns-then-kind-eq-FLOAT
returns_3 c =
    let a = c.before.before.before.before.before.before.before.args in
    one_right a.t.now a.at c.before.before.before.before.if-kind-eq-FLOAT.true c.before.before.before.if-room-lt-FLOAT_SIZE.false _ _ c.before.one_fault-code.ensures c.before.before.float_at.ensures c.if-code-ne-DONE.false

refusal_requires_3 : tie.Need-refusal-requires-then-room-lt-FLOAT_RANGE_SIZE
refusal_requires_3 c κs = search rules

returns_4 : tie.Need-returns-then-room-lt-FLOAT_RANGE_SIZE
returns_4 c =
    let a = c.before.before.before.before.before.before.args in
    bounds_short a.t.now a.at c.before.before.if-kind-eq-FLOAT_RANGE.true _ c.refusal-then-room-lt-FLOAT_RANGE_SIZE.ensures c.before.if-room-lt-FLOAT_RANGE_SIZE.true

add_float_at_2 : tie.Need-overflow_add-at-then-kind-eq-FLOAT_RANGE
add_float_at_2 c = search rules

float_at_requires_2 : tie.Need-float_at-lower-requires
float_at_requires_2 c κs = search rules

add_float_at_3 : tie.Need-overflow_add-at-then-kind-eq-FLOAT_RANGE-2
add_float_at_3 c = search rules

float_at_requires_3 : tie.Need-float_at-upper-requires
float_at_requires_3 c κs = search rules

bounds_fault_requires : tie.Need-bounds_fault-code-requires
bounds_fault_requires c κs = search rules

refusal_requires_4 : tie.Need-refusal-requires-then-code-ne-DONE-2
refusal_requires_4 c κs = search rules

returns_5 : tie.Need-returns-then-code-ne-DONE-2
returns_5 c =
    let a = c.before.before.before.before.before.before.before.before.before.before.args in
    bounds_fault_lem a.t.now a.at c.before.before.before.before.before.before.if-kind-eq-FLOAT_RANGE.true c.before.before.before.before.before.if-room-lt-FLOAT_RANGE_SIZE.false _ _ c.before.before.bounds_fault-code.ensures (two _ _ _ _ c.before.before.before.before.float_at-lower.ensures c.before.before.before.float_at-upper.ensures) _ c.refusal-then-code-ne-DONE-2.ensures c.before.if-code-ne-DONE-2.true (search rules)

add_result_2 : tie.Need-overflow_add-result-then-kind-eq-FLOAT_RANGE
add_result_2 c = search rules

returns_6 : tie.Need-returns-then-kind-eq-FLOAT_RANGE
returns_6 c =
    let a = c.before.before.before.before.before.before.before.before.before.args in
    bounds_right a.t.now a.at c.before.before.before.before.before.if-kind-eq-FLOAT_RANGE.true c.before.before.before.before.if-room-lt-FLOAT_RANGE_SIZE.false _ _ c.before.bounds_fault-code.ensures (two _ _ _ _ c.before.before.before.float_at-lower.ensures c.before.before.float_at-upper.ensures) c.if-code-ne-DONE-2.false

add_result_3 : tie.Need-overflow_add-result-then-kind-eq-ANY
add_result_3 c = search rules

returns_7 : tie.Need-returns-then-kind-eq-ANY
returns_7 c =
    let start = c.before.before.before.before.before in
    let a = start.args in
    any_float a.t.now a.at c.if-kind-eq-ANY.true start.requires.0

refusal_requires_5 : tie.Need-refusal-requires-2
refusal_requires_5 c κs = search rules

returns_8 : tie.Need-returns
returns_8 c =
    let a = c.before.before.before.before.before.before.args in
    unknown_float a.t.now a.at _ c.refusal-2.ensures c.before.before.before.if-kind-eq-FLOAT.false c.before.before.if-kind-eq-FLOAT_RANGE.false c.before.if-kind-eq-ANY.false

pub float_end_spec : {M : Type 1} → statement M
float_end_spec =
    tie.close
    (tie.spec
    shared_slice_read_kind
    sub_room
    refusal_requires
    returns
    add_float_at
    float_at_requires
    one_fault_requires
    refusal_requires_2
    returns_2
    add_result
    returns_3
    refusal_requires_3
    returns_4
    add_float_at_2
    float_at_requires_2
    add_float_at_3
    float_at_requires_3
    bounds_fault_requires
    refusal_requires_4
    returns_5
    add_result_2
    returns_6
    add_result_3
    returns_7
    refusal_requires_5
    returns_8)
