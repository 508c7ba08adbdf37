-- `stream::list_fault` meets its contract: the record's own fault, then n over 32. Assumes nothing.
use mathlib.Core.Path.{sym, ◌∙◌}
use native.Mathlib.Omega.{arith}
use Rattle.stream.proofs.Lists.{record_fits, list_faulty, list_over, list_right}
use borrow.Author.Rules.{rules}
use Rattle.stream.proofs.list_fault.Statement.{statement}
use Rattle.stream.proofs.list_fault.Tie as tie

record_fault_requires : tie.Need-record_fault-code-requires
record_fault_requires c κs = search rules

returns : tie.Need-returns-then-code-ne-DONE
returns c =
    let a = c.before.before.before.args in
    list_faulty a.s.now a.at c.before.record_fault-code.result c.before.record_fault-code.ensures c.if-code-ne-DONE.true

add_if2 : tie.Need-overflow_add-at
add_if2 c = search rules

shared_slice_read_if2 : tie.Need-bounds-s-at
shared_slice_read_if2 c =
    let a = c.before.before.before.before.args in
    omega (arith, record_fits 64 2 a.s.now a.at c.before.before.before.before.requires (sym c.before.before.record_fault-code.ensures ∙ c.before.if-code-ne-DONE.false))

returns_2 : tie.Need-returns-then-s-at-gt-LENGTH_MOST
returns_2 c =
    let at_if1 = c.before.before in
    let at_record_fault = at_if1.before in
    let start = at_record_fault.before.before in
    let a = start.args in
    list_over a.s.now a.at at_record_fault.record_fault-code.result at_record_fault.record_fault-code.ensures at_if1.if-code-ne-DONE.false c.if-s-at-gt-LENGTH_MOST.true

returns_3 : tie.Need-returns
returns_3 c =
    let at_if1 = c.before.before in
    let at_record_fault = at_if1.before in
    let start = at_record_fault.before.before in
    let a = start.args in
    list_right a.s.now a.at at_record_fault.record_fault-code.result at_record_fault.record_fault-code.ensures at_if1.if-code-ne-DONE.false c.if-s-at-gt-LENGTH_MOST.false

pub list_fault_spec : {M : Type 1} → statement M
list_fault_spec =
    tie.close
    (tie.spec record_fault_requires returns add_if2 shared_slice_read_if2 returns_2 returns_3)
