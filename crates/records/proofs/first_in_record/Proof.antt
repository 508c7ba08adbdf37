-- `first_in_record` meets its contract: a plain record by its elements, any other by its blocks, with each run of 20s as one. Assumes nothing.
use mathlib.Core.Path.{refl}
use borrow.Author.Rules.{rules}
use Rattle.blocks.proofs.FirstLists.{best_same}
use Rattle.member_rows.proofs.RowByRow.{served_few}
use Rattle.records.proofs.Loop.{plain_few}
use Rattle.records.proofs.first_in_record.Statement.{statement}
use Rattle.records.proofs.first_in_record.Tie as tie

is_plain_requires : tie.Need-is_plain-requires
is_plain_requires c κs = search rules

plain_first_requires : tie.Need-plain_first-requires
plain_first_requires c κs = let p = c.requires in (p.0, plain_few _ _ _ (c.is_plain.ensures.passed c.if-is_plain.true) p.2)

returns : tie.Need-returns-then-is_plain
returns c fam lent es s = c.plain_first.ensures fam lent es _ s (c.is_plain.ensures.passed c.if-is_plain.true)

join_runs_requires : tie.Need-join_runs-many-requires
join_runs_requires c κs = (c.requires.1, refl)

first_by_places_requires : tie.Need-first_by_places-requires
first_by_places_requires c κs =
    let p = c.requires in
    let j = c.join_runs-many.ensures _ p.2 in
    (p.0, j.few, j.below)

returns_2 : tie.Need-returns
returns_2 c fam lent es s =
    let p = c.requires in
    let few = served_few _ _ _ _ _ p.0 in
    let same = (c.join_runs-many.ensures _ p.2).same in
    best_same (λ v h. same.back _ _ _ v few h) (λ v h. same.there _ _ _ v few h) (c.first_by_places.ensures fam lent es s)

pub first_in_record_spec : {M : Type 1} → statement M
first_in_record_spec = tie.close (tie.spec is_plain_requires plain_first_requires returns join_runs_requires first_by_places_requires returns_2)
