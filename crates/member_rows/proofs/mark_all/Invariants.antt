-- The member stands in the rows below e, and the other rows are as they were. Assumes nothing.
use Rattle.std.proofs.Common.{true}
use Rattle.member_rows.specs.Places.{Marked}
use Rattle.member_rows.proofs.mark_all.Given as goal

abbrev pub invariant-loop-e : goal.invariant-loop-e
invariant-loop-e l = Marked l.fn.rows l.m (λ j. true) l.e l.rows
