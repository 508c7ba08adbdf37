-- `elements::group_head_end` meets its contract: the fault is that of the count, and without one the members follow. Assumes nothing.
use Rattle.elements.proofs.Records.{group_fault, group_right}
use borrow.Author.Rules.{rules}
use Rattle.elements.proofs.group_head_end.Statement.{statement}
use Rattle.elements.proofs.group_head_end.Tie as tie

count_fault_requires : tie.Need-count_fault-code-requires
count_fault_requires c κs = search rules

refusal_requires : tie.Need-refusal-requires
refusal_requires c κs = search rules

returns : tie.Need-returns-then-code-ne-DONE
returns c =
    let a = c.before.before.before.before.args in
    λ fam b k. group_fault b a.t.now a.at c.before.before.count_fault-code.result c.before.before.count_fault-code.ensures _ c.refusal.ensures c.before.if-code-ne-DONE.true (search rules)

add_result : tie.Need-overflow_add-result
add_result c = search rules

returns_2 : tie.Need-returns
returns_2 c =
    let a = c.before.before.before.args in
    λ fam b k. group_right b a.t.now a.at c.before.count_fault-code.result c.before.count_fault-code.ensures c.if-code-ne-DONE.false k

pub group_head_end_spec : {M : Type 1} → statement M
group_head_end_spec =
    tie.close (tie.spec count_fault_requires refusal_requires returns add_result returns_2)
