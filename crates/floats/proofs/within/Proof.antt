-- `floats::within` meets its contract. Assumes nothing.
use Rattle.floats.specs.Leaves.{float_matches}
use borrow.Author.Rules.{rules}
use Rattle.floats.proofs.within.Statement.{statement}
use Rattle.floats.proofs.within.Tie as tie

returns : tie.Need-returns
unfolding float_matches
returns c = search rules

pub within_spec : {M : Type 1} → statement M
within_spec = tie.close (tie.spec returns)
