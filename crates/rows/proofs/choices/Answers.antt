-- `choices`: a row has the elements that its member may take.
use Rattle.rows.proofs.Rows.{row_picks}
use Rattle.rows.proofs.choices.Goals as goal

pub returns : goal.returns
returns c e = row_picks c.args.columns.now c.args.m e
