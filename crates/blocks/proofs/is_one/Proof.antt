-- `is_one_lem` meets its contract. Assumes nothing.
use mathlib.Core.Path.{refl}
use Rattle.blocks.specs.Pieces.{is_one}
use Rattle.blocks.proofs.is_one.Statement.{statement}
use Rattle.blocks.proofs.is_one.Tie as tie

returns : tie.Need-returns
unfolding is_one
returns c = refl

pub is_one_spec : {M : Type 1} → statement M
is_one_spec = tie.close (tie.spec returns)
