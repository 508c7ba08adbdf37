-- `leaves::float_leaf_size` meets its contract: the test is the definition's. Assumes nothing.
use borrow.Author.Tests.{eq-eqb, ne_eqb}
use Rattle.leaves.specs.Leaves.{float_leaf_size}
use Rattle.leaves.proofs.float_leaf_size.Statement.{statement}
use Rattle.leaves.proofs.float_leaf_size.Tie as tie

returns : tie.Need-returns-then-kind-eq-FLOAT
unfolding float_leaf_size
returns c = rw (eq-eqb _ 6 c.if-kind-eq-FLOAT.true)

returns_2 : tie.Need-returns-else-kind-eq-FLOAT
unfolding float_leaf_size
returns_2 c = rw (ne_eqb _ 6 c.if-kind-eq-FLOAT.false)

pub float_leaf_size_spec : {M : Type 1} → statement M
float_leaf_size_spec = tie.close (tie.spec returns returns_2)
