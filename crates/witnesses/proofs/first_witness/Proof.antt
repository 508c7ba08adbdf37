-- `first_witness` meets its contract: a record of by its blocks and bytes, a subset by its members, each once or under sheet 1 many times, any other body by its
-- one block. Assumes nothing.
use native.Mathlib.Omega.{arith}
use Prim.Native.Nat.{◌+◌, ◌≤◌}
use lib.ListN.{length}
use Rattle.grammar.specs.Family.{list_of}
use Rattle.grammar.proofs.Families.{lent_size}
use Rattle.member_rows.proofs.RowByRow.{served_few}
use Rattle.std.specs.Option.{is_some}
use mathlib.Core.List.{List, [], ◌∷◌}
use Rattle.blocks.specs.declared.Block.{Block}
use Rattle.blocks.specs.Pieces.{Cutting, bytes_of}
use Rattle.member_rows.specs.Contract.{pair_of}
use mathlib.Core.Path.{sym, ap, ◌∙◌, subst}
use Rattle.witnesses.proofs.ByKind.{first_subset, first_plain, first_blocks}
use Rattle.witnesses.proofs.OneBlock.{cutting_pairs, containing_pairs, filling_pairs, below_one}
use borrow.Author.Rules.{rules}
use Rattle.witnesses.proofs.first_witness.Statement.{statement}
use Rattle.witnesses.proofs.first_witness.Tie as tie

-- what was lent
module _ (s : tie.Start) where
  few : length s.args.integers.now + length s.args.floats.now ≤ 32
  few = served_few _ _ _ _ _ s.requires.0

first_in_record_requires : tie.Need-first_in_record-requires
first_in_record_requires c κs = search rules

returns : tie.Need-returns-then-kind-eq-RECORD_OF
returns c fam lent es s = first_blocks _ _ _ _ _ (λ q. let z = sym c.if-kind-eq-RECORD_OF.true ∙ q in omega arith) (λ q. let z = sym c.if-kind-eq-RECORD_OF.true ∙ q in omega arith) (c.first_in_record.ensures fam lent es s)

rows_of_requires : tie.Need-rows_of-rows-requires
rows_of_requires c κs = search rules

add_n : tie.Need-overflow_add-n
add_n c = omega (arith, few c.before.before.before.before)

cast_n : tie.Need-overflow_cast-n
cast_n c = omega (arith, few c.before.before.before.before)

cast_first_filling : tie.Need-overflow_cast-members
cast_first_filling c = omega (arith, c.requires.0.placed.few)

first_filling_requires : tie.Need-first_filling-requires
first_filling_requires c κs = let s = c.before.before.before.before.before.before in (s.requires.0.placed.few, few s)

returns_2 : tie.Need-returns-then-kind-eq-SUBSET
returns_2 c fam lent es s =
    let rows = c.before.before.before in
    first_subset _ _ _ _ _ c.if-kind-eq-SUBSET.true (filling_pairs fam es _ _ _ (lent_size fam _ _ lent) (rows.rows_of-rows.ensures fam lent es s) _ c.first_filling.ensures)

cast_first_containment : tie.Need-overflow_cast-members-then-kind-eq-CONTAINMENT
cast_first_containment c = omega (arith, c.requires.0.placed.few)

first_containment_requires : tie.Need-first_containment-requires
first_containment_requires c κs = let s = c.before.before.before.before.before.before.before in (s.requires.0.placed.few, few s)

returns_3 : tie.Need-returns-then-kind-eq-CONTAINMENT
returns_3 c fam lent es s =
    let rows = c.before.before.before.before in
    first_plain _ _ _ _ _ c.if-kind-eq-CONTAINMENT.true (containing_pairs fam es _ _ _ (lent_size fam _ _ lent) (rows.rows_of-rows.ensures fam lent es s) _ c.first_containment.ensures)

block_at_requires : tie.Need-block_at-b-requires
block_at_requires c κs = search rules

first_of_block_requires : tie.Need-first_of_block-requires
first_of_block_requires c κs =
    let other = c.before.before.before in
    let start = other.before.before.before.before.before in
    let p = start.requires in
    let low = below_one _ _ _ (p.3.alone other.if-kind-eq-RECORD_OF.false other.if-kind-eq-SUBSET.false) p.2 in
    (rw c.block_at-b.ensures (omega (arith, low, p.0.placed.few)), few start)

returns_4 : tie.Need-returns
returns_4 c fam lent es s =
    let found = c.before.before in
    let other = found.before.before in
    let start = other.before.before.before.before.before in
    let a = start.args in
    let alone = start.requires.3.alone other.if-kind-eq-RECORD_OF.false other.if-kind-eq-SUBSET.false ∙ ap (λ (b : Block). b ∷ []) (sym found.block_at-b.ensures) in
    first_blocks _ _ _ _ _ other.if-kind-eq-SUBSET.false found.if-kind-eq-CONTAINMENT.false
    (subst
    (λ (bs : List Block). Cutting (pair_of fam es (list_of fam a.integers.now a.floats.now)) bs (length a.integers.now + length a.floats.now) (is_some c.first_of_block.result) (bytes_of c.first_of_block.result))
    (sym alone)
    (cutting_pairs fam es (list_of fam a.integers.now a.floats.now) _ _ (lent_size fam _ _ lent) (other.rows_of-rows.ensures fam lent es s) _ c.first_of_block.ensures))

pub first_witness_spec : {M : Type 1} → statement M
first_witness_spec =
    tie.close
    (tie.spec
    first_in_record_requires
    returns
    rows_of_requires
    add_n
    cast_n
    cast_first_filling
    first_filling_requires
    returns_2
    cast_first_containment
    first_containment_requires
    returns_3
    block_at_requires
    first_of_block_requires
    returns_4)
