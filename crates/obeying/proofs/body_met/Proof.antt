-- `body_met` meets its contract: each kind by what it asks. Assumes nothing.
use mathlib.Core.Path.{refl, ◌∙◌}
use Rattle.plain.proofs.PlainCuts.{plain_passing}
use Rattle.judging.specs.Reach.{any_pair}
use Rattle.obeying.proofs.Bodies.{first_block, one_kind, record_kind, subset_kind}
use borrow.Author.Rules.{rules}
use Rattle.obeying.proofs.body_met.Statement.{statement}
use Rattle.obeying.proofs.body_met.Tie as tie

none_spare_requires : tie.Need-none_spare-requires
none_spare_requires c κs = search rules

returns : tie.Need-returns-then-kind-ge-SUBSET
returns c = λ fam h b says spread. subset_kind _ _ h b _ _ says c.if-kind-ge-SUBSET.true c.none_spare.ensures

is_plain_requires : tie.Need-is_plain-requires
is_plain_requires c κs = search rules

counts_up_requires : tie.Need-counts_up-requires
counts_up_requires c κs = search rules

returns_2 : tie.Need-returns-then-is_plain
returns_2 c =
    let tested = c.before.before in
    let start = tested.before.before.before.before in
    let plain = tested.is_plain.ensures.passed c.if-is_plain.true in
    λ fam h b says spread. record_kind _ _ h b _ _ _ says spread tested.if-kind-eq-RECORD_OF.true (plain_passing any_pair _ _ plain start.requires.0 _ _ (λ i. refl) c.counts_up.ensures)

cut_passes_requires : tie.Need-cut_passes-requires
cut_passes_requires c κs = search rules

returns_3 : tie.Need-returns-then-kind-eq-RECORD_OF
returns_3 c = λ fam h b says spread. record_kind _ _ h b _ _ _ says spread c.if-kind-eq-RECORD_OF.true c.cut_passes.ensures

block_at_requires : tie.Need-block_at-requires
block_at_requires c κs = search rules

one_met_requires : tie.Need-one_met-requires
one_met_requires c κs = search rules

returns_4 : tie.Need-returns
returns_4 c =
    let start = c.before.before.before.before.before in
    λ fam h b says spread. one_kind _ _ start.requires.1 _ _ c.one_met.ensures _ _ h b says spread c.if-kind-ge-SUBSET.false c.if-kind-eq-RECORD_OF.false (λ d q. c.block_at.ensures ∙ first_block start.args.count start.args.blocks.now d q)

pub body_met_spec : {M : Type 1} → statement M
body_met_spec =
    tie.close
    (tie.spec
    none_spare_requires
    returns
    is_plain_requires
    counts_up_requires
    returns_2
    cut_passes_requires
    returns_3
    block_at_requires
    one_met_requires
    returns_4)
