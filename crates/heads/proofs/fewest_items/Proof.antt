-- `heads::fewest_items` meets its contract. Assumes nothing.
use borrow.Author.Tests.{lt-ltb, le-ltb}
use Rattle.heads.proofs.fewest_items.Statement.{statement}
use Rattle.heads.proofs.fewest_items.Tie as tie

returns : tie.Need-returns-then-kind-lt-SUPERSET
returns c = rw (lt-ltb c.args.kind 18 c.if-kind-lt-SUPERSET.true)

returns_2 : tie.Need-returns-else-kind-lt-SUPERSET
returns_2 c = rw (le-ltb c.args.kind 18 c.if-kind-lt-SUPERSET.false)

pub fewest_items_spec : {M : Type 1} → statement M
fewest_items_spec = tie.close (tie.spec returns returns_2)
