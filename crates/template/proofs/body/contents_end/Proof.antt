-- `template::body::contents_end` meets its contract: the kind says whether each item is a block, or all are one. Assumes nothing.
use Rattle.template.proofs.Bodies.{record_noted, group_noted}
use Rattle.sorts.specs.Sorts.{family_of, lower_of, upper_of}
use borrow.Author.Rules.{rules}
use Rattle.template.proofs.body.contents_end.Statement.{statement}
use Rattle.template.proofs.body.contents_end.Tie as tie

items_end_requires : tie.Need-items_end-requires
items_end_requires c κs = search rules

returns : tie.Need-returns-then-kind-eq-RECORD_OF
returns c =
    let a = c.args in
    record_noted (family_of a.sort) (lower_of a.sort) (upper_of a.sort) a.kind a.n a.t.now a.at _ _ _ c.if-kind-eq-RECORD_OF.true c.items_end.ensures

set_end_requires : tie.Need-set_end-requires
set_end_requires c κs = search rules

returns_2 : tie.Need-returns
returns_2 c =
    let a = c.args in
    group_noted (family_of a.sort) (lower_of a.sort) (upper_of a.sort) a.kind a.n a.t.now a.at _ _ _ c.if-kind-eq-RECORD_OF.false c.set_end.ensures

pub contents_end_spec : {M : Type 1} → statement M
contents_end_spec = tie.close (tie.spec items_end_requires returns set_end_requires returns_2)
