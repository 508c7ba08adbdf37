-- The member stands in the rows of the elements below e that pass, and the other rows are as they were. Assumes nothing.
use Rattle.std.proofs.Common.{get_or}
use Rattle.member_rows.proofs.RowByRow.{Passing}
use Rattle.member_rows.proofs.mark_passing.Given as goal

abbrev pub invariant-loop-e : goal.invariant-loop-e
invariant-loop-e g l = Passing l.fn.rows l.m (λ e b. (d : _) → goal.F-post g l.test (get_or l.elements e d) b) l.e l.rows
