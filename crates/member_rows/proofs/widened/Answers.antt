-- What was copied stands first, and 0 after it. Assumes nothing.
use Rattle.member_rows.proofs.Widening.{widened_front}
use Rattle.member_rows.proofs.widened.Goals as goal

pub returns : goal.returns
returns c = widened_front _ _ c.requires c.copy_from_slice.ensures.after
