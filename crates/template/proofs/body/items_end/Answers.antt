-- Each item adds its members and its block, or is the end. Assumes nothing.
use Rattle.std.proofs.Common.{refl, ap, ◌+◌, arith}
use Rattle.sorts.specs.Sorts.{family_of, lower_of, upper_of}
use Rattle.blocks.specs.declared.Block.{Block}
use Rattle.template.proofs.RecordItems.{items_start, items_stop, items_more, items_end}
use Rattle.template.proofs.body.items_end.Goals as goal

pub loop-k-init : goal.loop-k-init
loop-k-init c =
    let a = c.args in
    items_start (family_of a.sort) (lower_of a.sort) (upper_of a.sort) a.t.now a.at a.n _ _ c.requires.0.1 c.requires.0.0 c.requires.2 c.requires.3

pub returns-then-p-gt-FAULT : goal.returns-then-p-gt-FAULT
returns-then-p-gt-FAULT c = items_stop c.loop-k.invariant c.loop-k-test.true c.item_end-p.ensures.0 (omega arith)

pub loop-k-preserved : goal.loop-k-preserved
loop-k-preserved c =
    items_more c.loop-k.invariant c.loop-k-test.true c.requires.1 c.item_end-p.ensures.1 c.if-p-gt-FAULT.false c.item_end-p.ensures.0 _ (ap (λ (b : Block). c.loop-k.m + b.k) c.block_of-b.ensures)

pub returns : goal.returns
returns c = items_end c.loop-k.invariant c.loop-k-test.false c.requires.1 _ refl
