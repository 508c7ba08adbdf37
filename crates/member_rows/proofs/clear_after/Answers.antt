-- The rows from n on were written over with 0. Assumes nothing.
use Rattle.std.proofs.Common.{arith, rules, ◌∙◌, ap, replicate, ℕ}
use Rattle.member_rows.proofs.RowByRow.{zeros_cleared}
use Rattle.member_rows.proofs.clear_after.Goals as goal

pub returns : goal.returns
returns c = zeros_cleared _ _ _ _ (omega arith) (omega arith) (c.fill.ensures.after (λ y p. p) ∙ ap (λ (k : ℕ). replicate k 0) (search rules))
