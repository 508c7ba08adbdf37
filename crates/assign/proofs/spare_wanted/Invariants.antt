-- `spare_wanted`. The loop: `able` has every member that may take a spare element before e.
use Rattle.masks.specs.Masks.{bit}
use Rattle.rows.specs.Rows.{may}
use Rattle.assign.proofs.NobodyWants.{Able}
use Rattle.assign.proofs.spare_wanted.Given as goal

abbrev pub invariant-loop-e : goal.invariant-loop-e
invariant-loop-e l = Able (may l.rows) l.from l.e l.w (bit l.able)
