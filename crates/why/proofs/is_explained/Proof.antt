-- `is_explained` meets its contract: the code is the test. Assumes nothing.
use mathlib.Core.Path.{refl}
use Rattle.why.proofs.is_explained.Statement.{statement}
use Rattle.why.proofs.is_explained.Tie as tie

returns : tie.Need-returns
returns c = refl

pub is_explained_spec : {M : Type 1} → statement M
is_explained_spec = tie.close (tie.spec returns)
