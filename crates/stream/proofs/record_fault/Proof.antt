-- `stream::record_fault` meets its contract: its tests are the definition's, in the same order. Assumes nothing.
use native.Mathlib.Omega.{arith}
use Rattle.stream.proofs.Lists.{fault_none, fault_kind, fault_short, fault_right}
use borrow.Author.Rules.{rules}
use Rattle.stream.proofs.record_fault.Statement.{statement}
use Rattle.stream.proofs.record_fault.Tie as tie

returns : tie.Need-returns-then-at-s
returns c =
    let a = c.before.args in
    fault_none a.kind a.size a.s.now a.at c.if-at-s.true

shared_slice_read_if2 : tie.Need-bounds-s-at
shared_slice_read_if2 c = search rules

returns_2 : tie.Need-returns-then-s-at
returns_2 c =
    let a = c.before.before.before.args in
    fault_kind a.kind a.size a.s.now a.at (omega (arith, c.before.before.if-at-s.false, c.before.before.before.requires)) c.if-s-at.true

sub_if3 : tie.Need-overflow_sub-s
sub_if3 c = search rules

returns_3 : tie.Need-returns-then-s-at-2
returns_3 c =
    let at_if1 = c.before.before.before in
    let start = at_if1.before in
    let a = start.args in
    fault_short a.kind a.size a.s.now a.at (omega (arith, at_if1.if-at-s.false, start.requires)) c.before.if-s-at.false c.if-s-at-2.true

returns_4 : tie.Need-returns
returns_4 c =
    let at_if1 = c.before.before.before in
    let start = at_if1.before in
    let a = start.args in
    fault_right a.kind a.size a.s.now a.at (omega (arith, at_if1.if-at-s.false, start.requires)) c.before.if-s-at.false c.if-s-at-2.false

pub record_fault_spec : {M : Type 1} → statement M
record_fault_spec =
    tie.close (tie.spec returns shared_slice_read_if2 returns_2 sub_if3 returns_3 returns_4)
