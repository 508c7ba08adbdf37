-- `items::record::bounds_fault` meets its contract: each test of the code is the next test of `bounds_fault`. Assumes nothing.
use mathlib.Core.Path.{sym, ◌∙◌}
use Rattle.items.proofs.ItemRecords.{bounds_short, bounds_bad, bounds_right}
use borrow.Author.Rules.{rules}
use Rattle.items.proofs.record.bounds_fault.Statement.{statement}
use Rattle.items.proofs.record.bounds_fault.Tie as tie

sub_if1 : tie.Need-overflow_sub-t
sub_if1 c = search rules

returns : tie.Need-returns-then-t-at-lt-BOUNDS_SIZE
returns c =
    let a = c.before.before.args in
    bounds_short a.t.now a.at c.if-t-at-lt-BOUNDS_SIZE.true

add_bad_bounds : tie.Need-overflow_add-at
add_bad_bounds c = search rules

shared_slice_read_bad_bounds : tie.Need-bounds-t-at
shared_slice_read_bad_bounds c = search rules

add_bad_bounds_2 : tie.Need-overflow_add-at-2
add_bad_bounds_2 c = search rules

shared_slice_read_bad_bounds_2 : tie.Need-bounds-t-at-2
shared_slice_read_bad_bounds_2 c = search rules

bad_bounds_requires : tie.Need-bad_bounds-requires
bad_bounds_requires c κs = search rules

returns_2 : tie.Need-returns-then-bad_bounds
returns_2 c =
    let a = c.before.before.before.before.before.before.args in
    bounds_bad a.t.now a.at c.before.before.before.before.if-t-at-lt-BOUNDS_SIZE.false (sym c.before.bad_bounds.ensures ∙ c.if-bad_bounds.true)

returns_3 : tie.Need-returns
returns_3 c =
    let a = c.before.before.before.before.before.before.args in
    bounds_right a.t.now a.at c.before.before.before.before.if-t-at-lt-BOUNDS_SIZE.false (sym c.before.bad_bounds.ensures ∙ c.if-bad_bounds.false)

pub bounds_fault_spec : {M : Type 1} → statement M
bounds_fault_spec =
    tie.close
    (tie.spec
    sub_if1
    returns
    add_bad_bounds
    shared_slice_read_bad_bounds
    add_bad_bounds_2
    shared_slice_read_bad_bounds_2
    bad_bounds_requires
    returns_2
    returns_3)
