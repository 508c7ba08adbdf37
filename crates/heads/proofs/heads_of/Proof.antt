-- `heads::heads_of` meets its contract: what begins below 30 has no heads. Assumes nothing.
use Rattle.heads.proofs.HeadRecords.{heads_none}
use borrow.Author.Rules.{rules}
use Rattle.heads.proofs.heads_of.Statement.{statement}
use Rattle.heads.proofs.heads_of.Tie as tie

kind_at_requires : tie.Need-kind_at-requires
kind_at_requires c κs = search rules

no_heads_requires : tie.Need-no_heads-requires
no_heads_requires c κs = search rules

returns : tie.Need-returns-then-kind_at-lt-LENGTH
returns c = let told = c.before.before in let a = told.args in heads_none a.family a.t.now _ _ told.kind_at.ensures c.if-kind_at-lt-LENGTH.true c.no_heads.ensures

some_heads_requires : tie.Need-some_heads-requires
some_heads_requires c κs = search rules

returns_2 : tie.Need-returns
returns_2 c = search rules

pub heads_of_spec : {M : Type 1} → statement M
heads_of_spec =
    tie.close (tie.spec kind_at_requires no_heads_requires returns some_heads_requires returns_2)
