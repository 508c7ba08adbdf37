-- `heads::some_heads` meets its contract: the sheet, then the other heads. Assumes nothing.
use Rattle.grammar.specs.Whole.{heads_here}
use Rattle.heads.proofs.HeadRecords.{begun, heads_stop, heads_go}
use borrow.Author.Rules.{rules}
use Rattle.heads.proofs.some_heads.Statement.{statement}
use Rattle.heads.proofs.some_heads.Tie as tie

sheet_head_requires : tie.Need-sheet_head-h-requires
sheet_head_requires c κs = search rules

returns : tie.Need-returns-then-h-ne-DONE
unfolding heads_here
returns c = heads_stop _ c.sheet_head-h.ensures c.if-h-ne-DONE.true

rest_heads_requires : tie.Need-rest_heads-requires
rest_heads_requires c κs = begun c.sheet_head-h.ensures c.if-h-ne-DONE.false c.requires

returns_2 : tie.Need-returns
unfolding heads_here
returns_2 c = heads_go _ c.sheet_head-h.ensures c.if-h-ne-DONE.false c.rest_heads.ensures

pub some_heads_spec : {M : Type 1} → statement M
some_heads_spec = tie.close (tie.spec sheet_head_requires returns rest_heads_requires returns_2)
