-- The kind after the heads says whether a length attribute is there. Assumes nothing.
use Rattle.std.proofs.Common.{refl, sym, ◌∙◌, arith}
use Rattle.items.proofs.ItemRecords.{bounds_inv}
use Rattle.heads.specs.Fronts.{heads_fault, heads_read}
use Rattle.heads.proofs.HeadRecords.{length_none, length_fault, length_read}
use Rattle.heads.proofs.length_head.Goals as goal

pub returns-then-kind_at-ne-LENGTH : goal.returns-then-kind_at-ne-LENGTH
returns-then-kind_at-ne-LENGTH c fam a said =
    heads_read a (length_none a c.args.t.now c.args.h.next _ c.kind_at.ensures c.if-kind_at-ne-LENGTH.true) c.requires.done c.requires.inside said

pub returns-then-code-ne-DONE : goal.returns-then-code-ne-DONE
returns-then-code-ne-DONE c fam a said =
    heads_fault _ (length_fault a c.args.t.now c.args.h.next _ c.kind_at.ensures c.if-kind_at-ne-LENGTH.false _ c.bounds_fault-code.ensures c.if-code-ne-DONE.true) (omega arith) c.refused_heads.ensures

pub bounds-t-at : goal.bounds-t-at
bounds-t-at c = omega (arith, bounds_inv c.args.t.now c.args.h.next (sym c.bounds_fault-code.ensures ∙ c.if-code-ne-DONE.false))

pub bounds-t-at-2 : goal.bounds-t-at-2
bounds-t-at-2 c = omega (arith, bounds_inv c.args.t.now c.args.h.next (sym c.bounds_fault-code.ensures ∙ c.if-code-ne-DONE.false))

pub returns : goal.returns
returns c fam a said =
    heads_read _ (length_read a c.args.t.now c.args.h.next _ c.kind_at.ensures c.if-kind_at-ne-LENGTH.false _ c.bounds_fault-code.ensures c.if-code-ne-DONE.false) c.requires.done (bounds_inv c.args.t.now c.args.h.next (sym c.bounds_fault-code.ensures ∙ c.if-code-ne-DONE.false))
    (record { sheet = said.sheet; attribute = refl; bounds = record { lower = refl; upper = refl }; order = said.order; sort = said.sort })
