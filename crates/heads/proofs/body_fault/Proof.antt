-- `heads::body_fault` meets its contract: each test of the code is the next test of `own_fault`. Assumes nothing.
use mathlib.Core.Path.{sym, ◌∙◌}
use native.Mathlib.Omega.{arith}
use Rattle.heads.proofs.HeadRecords.{few_counted, body_counts, own_none, own_low, own_high, own_count, own_clash}
use borrow.Author.Rules.{rules}
use Rattle.heads.proofs.body_fault.Statement.{statement}
use Rattle.heads.proofs.body_fault.Tie as tie

returns : tie.Need-returns-then-at-t
returns c =
    let w = c.before.before in
    own_none _ _ w.args.t.now w.args.heads.next (omega (arith, c.if-at-t.true))

shared_slice_read_kind : tie.Need-bounds-t-at
shared_slice_read_kind c = search rules

returns_2 : tie.Need-returns-then-kind-lt-RECORD_OF
returns_2 c =
    let w = c.before.before.before.before in
    own_low _ _ w.args.t.now w.args.heads.next (omega (arith, c.if-at-t.false, w.requires)) c.if-kind-lt-RECORD_OF.true

returns_3 : tie.Need-returns-then-kind-gt-SUBSET
returns_3 c =
    let w = c.before.before.before.before.before in
    own_high _ _ w.args.t.now w.args.heads.next (omega (arith, c.if-at-t.false, w.requires)) c.if-kind-lt-RECORD_OF.false c.if-kind-gt-SUBSET.true

fewest_items_requires : tie.Need-fewest_items-requires
fewest_items_requires c κs = search rules

count_fault_requires : tie.Need-count_fault-code-requires
count_fault_requires c κs = search rules

returns_4 : tie.Need-returns-then-code-ne-DONE
returns_4 c =
    let w = c.before.before.before.before.before.before.before.before in
    own_count _ _ w.args.t.now w.args.heads.next (omega (arith, c.if-at-t.false, w.requires)) c.if-kind-lt-RECORD_OF.false c.if-kind-gt-SUBSET.false _ (few_counted w.args.t.now w.args.heads.next _ _ c.count_fault-code.ensures c.fewest_items.ensures) c.if-code-ne-DONE.true

add_length_clashes : tie.Need-overflow_add-at
add_length_clashes c = search rules

shared_slice_read_length_clashes : tie.Need-bounds-t-at-2
shared_slice_read_length_clashes c =
    let w = c.before.before.before.before.before.before.before.before.before in
    omega (arith, (body_counts w.args.t.now w.args.heads.next _ _ c.count_fault-code.ensures c.if-code-ne-DONE.false).fits)

length_clashes_requires : tie.Need-length_clashes-requires
length_clashes_requires c κs = search rules

returns_5 : tie.Need-returns-then-length_clashes
returns_5 c =
    let w = c.before.before.before.before.before.before.before.before.before.before.before in
    own_clash _ _ w.args.t.now w.args.heads.next (omega (arith, c.if-at-t.false, w.requires)) c.if-kind-lt-RECORD_OF.false c.if-kind-gt-SUBSET.false _ (few_counted w.args.t.now w.args.heads.next _ _ c.count_fault-code.ensures c.fewest_items.ensures) c.if-code-ne-DONE.false _ (sym c.length_clashes.ensures ∙ c.if-length_clashes.true)

returns_6 : tie.Need-returns
returns_6 c =
    let w = c.before.before.before.before.before.before.before.before.before.before.before in
    own_clash _ _ w.args.t.now w.args.heads.next (omega (arith, c.if-at-t.false, w.requires)) c.if-kind-lt-RECORD_OF.false c.if-kind-gt-SUBSET.false _ (few_counted w.args.t.now w.args.heads.next _ _ c.count_fault-code.ensures c.fewest_items.ensures) c.if-code-ne-DONE.false _ (sym c.length_clashes.ensures ∙ c.if-length_clashes.false)

pub body_fault_spec : {M : Type 1} → statement M
body_fault_spec =
    tie.close
    (tie.spec
    returns
    shared_slice_read_kind
    returns_2
    returns_3
    fewest_items_requires
    count_fault_requires
    returns_4
    add_length_clashes
    shared_slice_read_length_clashes
    length_clashes_requires
    returns_5
    returns_6)
