-- `template::body::set_end` meets its contract: its items are one block, whose upper bound is open for a superset. Assumes nothing.
use mathlib.Core.Path.{refl, ap}
use mathlib.Core.Logic.{⊎_elim}
use native.Mathlib.Omega.{arith}
use Rattle.blocks.specs.declared.Block.{Block}
use Rattle.items.proofs.MemberPlaces.{stopped_on}
use Rattle.template.proofs.Bodies.{set_noted}
use Rattle.sorts.specs.Sorts.{family_of, lower_of, upper_of}
use borrow.Author.Rules.{rules}
use Rattle.template.proofs.body.set_end.Statement.{statement}
use Rattle.template.proofs.body.set_end.Tie as tie

group_end_requires : tie.Need-group_end-end-requires
group_end_requires c κs = search rules

returns : tie.Need-returns-then-end-gt-FAULT
returns c = stopped_on c.group_end-end.ensures.0 (omega (arith, c.if-end-gt-FAULT.true))

block_of_requires : tie.Need-block_of-b-requires
block_of_requires c κs = search rules

number_of_requires : tie.Need-number_of-requires
number_of_requires c κs = search rules

element_write_blocks : tie.Need-bounds-blocks-0
element_write_blocks c = search rules

cast_result : tie.Need-overflow_cast-result
cast_result c = search rules

mul_result : tie.Need-overflow_mul-result
mul_result c = search rules

add_result : tie.Need-overflow_add-result
add_result c = search rules

returns_2 : tie.Need-returns
returns_2 c =
    let max = c.if-kind-eq-SUPERSET in
    let told = c.before.before.before.before in
    let read = told.before.before in
    let start = read.before.before.before.before in
    let a = start.args in
    set_noted (family_of a.sort) (lower_of a.sort) (upper_of a.sort) a.kind start.requires.1 start.requires.2 told.block_of-b.result.k told.block_of-b.result.min told.block_of-b.result.max max.max
    (λ k. ⊎_elim (λ v. v.max-is) (λ v. absurd (v.if-kind-eq-SUPERSET.false k)) max.branch-raw)
    (λ k. ⊎_elim (λ v. absurd (k v.if-kind-eq-SUPERSET.true)) (λ v. v.max-is) max.branch-raw)
    a.t.now a.at a.n _ _ _ _ _ (ap (λ (b : Block). b.k) told.block_of-b.ensures) (ap (λ (b : Block). b.min) told.block_of-b.ensures) (ap (λ (b : Block). b.max) told.block_of-b.ensures) c.number_of.ensures start.requires.4 _ _ start.requires.0.1 told.if-end-gt-FAULT.false refl read.group_end-end.ensures.0

pub set_end_spec : {M : Type 1} → statement M
set_end_spec =
    tie.close
    (tie.spec
    group_end_requires
    returns
    block_of_requires
    number_of_requires
    element_write_blocks
    cast_result
    mul_result
    add_result
    returns_2)
