-- `elements::count_fault` meets its contract: each test of the code is the next test of `count_fault`. Assumes nothing.
use Rattle.grammar.proofs.RecordParts.{count_short, count_low, count_high, count_right}
-- `template::count_fault` meets its contract: each test of the code is the next test of `count_fault`. Assumes nothing.
use borrow.Author.Rules.{rules}
use Rattle.elements.proofs.count_fault.Statement.{statement}
use Rattle.elements.proofs.count_fault.Tie as tie

sub_if1 : tie.Need-overflow_sub-t
sub_if1 c = search rules

returns : tie.Need-returns-then-t-at-lt-COUNT_SIZE
returns c =
    let a = c.before.args in
    count_short a.lo a.hi a.t.now a.at c.if-t-at-lt-COUNT_SIZE.true

add_n : tie.Need-overflow_add-n
add_n c = search rules

shared_slice_read_n : tie.Need-bounds-t-at
shared_slice_read_n c = search rules

returns_2 : tie.Need-returns-then-n-lo
returns_2 c =
    let a = c.before.before.before.args in
    count_low a.lo a.hi a.t.now a.at c.before.before.if-t-at-lt-COUNT_SIZE.false c.if-n-lo.true

returns_3 : tie.Need-returns-then-hi-n
returns_3 c =
    let a = c.before.before.before.before.args in
    count_high a.lo a.hi a.t.now a.at c.before.before.before.if-t-at-lt-COUNT_SIZE.false c.before.if-n-lo.false c.if-hi-n.true

returns_4 : tie.Need-returns
returns_4 c =
    let a = c.before.before.before.before.args in
    count_right a.lo a.hi a.t.now a.at c.before.before.before.if-t-at-lt-COUNT_SIZE.false c.before.if-n-lo.false c.if-hi-n.false

pub count_fault_spec : {M : Type 1} → statement M
count_fault_spec =
    tie.close (tie.spec sub_if1 returns add_n shared_slice_read_n returns_2 returns_3 returns_4)
