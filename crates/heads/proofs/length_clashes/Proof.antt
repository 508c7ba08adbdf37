-- `heads::length_clashes` meets its contract: it is the definition's own test, where an attribute is given. Assumes nothing.
use borrow.Author.Tests.{not-true, not-false}
use Rattle.heads.proofs.HeadRecords.{clashes_never, clashes_is}
use Rattle.heads.proofs.length_clashes.Statement.{statement}
use Rattle.heads.proofs.length_clashes.Tie as tie

returns : tie.Need-returns-then-not-heads
returns c = let h = c.args.heads in clashes_never _ h.given h.min h.max _ _ (not-true _ c.if-not-heads.true)

returns_2 : tie.Need-returns
returns_2 c = let a = c.args in clashes_is a.heads.plain a.heads.given a.heads.min a.heads.max a.kind a.n (not-false _ c.if-not-heads.false)

pub length_clashes_spec : {M : Type 1} → statement M
length_clashes_spec = tie.close (tie.spec returns returns_2)
