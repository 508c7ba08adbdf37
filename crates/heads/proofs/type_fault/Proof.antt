-- `heads::type_fault` meets its contract: each test of the code is the next test of `type_fault`. Assumes nothing.
use Rattle.integers.proofs.SignedLocals.{told_order}
use Rattle.heads.proofs.HeadRecords.{type_short, type_reversed, type_sound}
use borrow.Author.Rules.{rules}
use Rattle.heads.proofs.type_fault.Statement.{statement}
use Rattle.heads.proofs.type_fault.Tie as tie

sub_if1 : tie.Need-overflow_sub-t
sub_if1 c = search rules

returns : tie.Need-returns-then-t-at-lt-TYPE_SIZE
returns c = let a = c.args in type_short a.t.now a.at c.if-t-at-lt-TYPE_SIZE.true

add_int_at : tie.Need-overflow_add-at
add_int_at c = search rules

int_at_requires : tie.Need-int_at-requires
int_at_requires c κs = search rules

add_int_at_2 : tie.Need-overflow_add-at-2
add_int_at_2 c = search rules

int_at_requires_2 : tie.Need-int_at-requires-2
int_at_requires_2 c κs = search rules

returns_2 : tie.Need-returns-then-int_at
returns_2 c =
    let read = c.before.before.before in
    let a = read.args in
    type_reversed a.t.now a.at read.if-t-at-lt-TYPE_SIZE.false (told_order _ _ _ _ _ c.if-int_at.true c.int_at.type_inv c.int_at-2.type_inv c.int_at.ensures c.int_at-2.ensures)

returns_3 : tie.Need-returns
returns_3 c =
    let read = c.before.before.before in
    let a = read.args in
    type_sound a.t.now a.at read.if-t-at-lt-TYPE_SIZE.false (told_order _ _ _ _ _ c.if-int_at.false c.int_at.type_inv c.int_at-2.type_inv c.int_at.ensures c.int_at-2.ensures)

pub type_fault_spec : {M : Type 1} → statement M
type_fault_spec =
    tie.close
    (tie.spec
    sub_if1
    returns
    add_int_at
    int_at_requires
    add_int_at_2
    int_at_requires_2
    returns_2
    returns_3)
