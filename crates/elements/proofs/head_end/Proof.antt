-- `elements::head_end` meets its contract. Assumes nothing.
use Rattle.elements.proofs.TypedRecords.{sort_whole}
use borrow.Author.Rules.{rules}
use Rattle.elements.proofs.head_end.Statement.{statement}
use Rattle.elements.proofs.head_end.Tie as tie

integer_head_end_requires : tie.Need-integer_head_end-requires
integer_head_end_requires c κs = search rules

returns : tie.Need-returns-then-sort-eq-WHOLE
returns c = let a = c.before.before.before.before.args in sort_whole a.t.now a.at _ a.sort c.before.if-sort-eq-WHOLE.true c.integer_head_end.ensures

other_record_end_requires : tie.Need-other_record_end-requires
other_record_end_requires c κs = search rules

returns_2 : tie.Need-returns
returns_2 c = search rules

pub head_end_spec : {M : Type 1} → statement M
head_end_spec =
    tie.close (tie.spec integer_head_end_requires returns other_record_end_requires returns_2)
