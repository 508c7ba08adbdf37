-- `elements::other_head_end` meets its contract. Assumes nothing.
use Rattle.elements.proofs.TypedRecords.{sort_floats, sort_typed}
use borrow.Author.Rules.{rules}
use Rattle.elements.proofs.other_head_end.Statement.{statement}
use Rattle.elements.proofs.other_head_end.Tie as tie

float_head_end_requires : tie.Need-float_head_end-requires
float_head_end_requires c κs = search rules

returns : tie.Need-returns-then-sort-eq-FLOATS
returns c = let a = c.before.before.before.before.args in sort_floats a.t.now a.at _ a.sort c.before.if-sort-eq-FLOATS.true c.float_head_end.ensures

typed_head_end_requires : tie.Need-typed_head_end-requires
typed_head_end_requires c κs = search rules

returns_2 : tie.Need-returns
returns_2 c = let a = c.before.before.before.before.args in sort_typed a.t.now a.at _ a.sort c.before.if-sort-eq-FLOATS.false c.typed_head_end.ensures

pub other_head_end_spec : {M : Type 1} → statement M
other_head_end_spec =
    tie.close (tie.spec float_head_end_requires returns typed_head_end_requires returns_2)
