-- The test says whether the leaf matches. Assumes nothing.
use Rattle.std.proofs.Common.{rules, tests}
use Rattle.std.specs.Float.{nan}
use Rattle.member_rows.proofs.RowByRow.{marked_same, marked_added}
use Rattle.member_rows.proofs.mark_floats.Goals as goal

pub returns : goal.returns
returns c =
    marked_added (marked_same _ _ _ _ _ _ (λ e l. let h = c.mark_passing.ensures.2 e nan l in search (rules, tests)) c.mark_passing.ensures.1)
