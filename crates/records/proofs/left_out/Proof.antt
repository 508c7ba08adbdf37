-- `left_out` meets its contract. Assumes nothing.
use mathlib.Core.Path.{sym, ◌∙◌}
use Rattle.records.proofs.Blocks.{left_spares, left_member, left_group}
use borrow.Author.Rules.{rules}
use Rattle.records.proofs.left_out.Statement.{statement}
use Rattle.records.proofs.left_out.Tie as tie

returns : tie.Need-returns-then-b-eq0
returns c = left_spares _ c.if-b-eq0.true

is_one_requires : tie.Need-is_one-requires
is_one_requires c κs = search rules

returns_2 : tie.Need-returns-then-is_one
returns_2 c = left_member _ (sym c.is_one.ensures ∙ c.if-is_one.true)

returns_3 : tie.Need-returns
returns_3 c = left_group _ c.if-b-eq0.false (sym c.is_one.ensures ∙ c.if-is_one.false)

pub left_out_spec : {M : Type 1} → statement M
left_out_spec = tie.close (tie.spec returns is_one_requires returns_2 returns_3)
