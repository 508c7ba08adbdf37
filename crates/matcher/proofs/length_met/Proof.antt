-- `length_met` meets its contract: the code is the test. Assumes nothing.
use mathlib.Core.Path.{refl}
use Rattle.matcher.proofs.length_met.Statement.{statement}
use Rattle.matcher.proofs.length_met.Tie as tie

returns : tie.Need-returns
returns c = refl

pub length_met_spec : {M : Type 1} → statement M
length_met_spec = tie.close (tie.spec returns)
