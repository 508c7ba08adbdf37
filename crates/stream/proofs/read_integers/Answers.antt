-- A turn reads one record, or stops at its fault. Assumes nothing.
use Rattle.std.proofs.Common.{sym, ◌∙◌, arith, w32}
use mir.Facts.{to_z-of_z}
use Rattle.stream.proofs.Lists.{faulted, reading_stop, reading_fits, reading_step, reading_end}
use Rattle.stream.proofs.read_integers.Goals as goal

pub returns-then-code-ne-DONE : goal.returns-then-code-ne-DONE
returns-then-code-ne-DONE c = faulted _ _ _ c.if-code-ne-DONE.true (reading_stop _ _ _ _ _ _ c.loop-i.invariant c.loop-i-test.true _ c.record_fault-code.ensures c.if-code-ne-DONE.true)

pub int_at-x-requires : goal.int_at-x-requires
int_at-x-requires c = omega (arith, reading_fits _ _ _ _ _ _ c.loop-i.invariant (sym c.record_fault-code.ensures ∙ c.if-code-ne-DONE.false))

pub loop-i-preserved : goal.loop-i-preserved
loop-i-preserved c =
    reading_step _ _ _ _ _ _ c.loop-i.invariant c.loop-i-test.true c.requires.1 (sym c.record_fault-code.ensures ∙ c.if-code-ne-DONE.false) _ (to_z-of_z {w = w32} (record { sfits = c.int_at-x.type_inv }) ∙ c.int_at-x.ensures)

pub returns : goal.returns
returns c = reading_end _ _ _ _ _ _ c.loop-i.invariant c.loop-i-test.false c.requires.1
