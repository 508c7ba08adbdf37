-- `lower_row`: what the exclusive or with the shifted difference does.
use Rattle.rows.proofs.Shifts.{lower_row}
use Rattle.rows.proofs.exchange.lower_row.Goals as goal

pub returns : goal.returns
returns c = let a = c.args in lower_row a.low a.high a.j a.mask
