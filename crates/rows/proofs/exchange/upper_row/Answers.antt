-- `upper_row`: what the exclusive or with the difference does.
use Rattle.rows.proofs.Shifts.{upper_row}
use Rattle.rows.proofs.exchange.upper_row.Goals as goal

pub returns : goal.returns
returns c = let a = c.args in upper_row a.low a.high a.j a.mask
