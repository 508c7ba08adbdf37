-- The type, or its fault. Assumes nothing.
use Rattle.std.proofs.Common.{refl, sym, ◌∙◌, ◌+◌, arith, ℤ}
use Rattle.std.proofs.Math.Path.{ap₂}
use Rattle.format.specs.declared.Family.{Family}
use Rattle.integers.proofs.FourBytes.{word_int_at}
use Rattle.integers.proofs.SignedLocals.{again_same}
use Rattle.sorts.specs.Sorts.{word_of}
use Rattle.heads.specs.Fronts.{heads_fault, heads_read}
use Rattle.heads.proofs.HeadRecords.{type_inv, type_fault_lem, type_read}
use Rattle.heads.proofs.type_head.Goals as goal

pub returns-then-code-ne-DONE : goal.returns-then-code-ne-DONE
returns-then-code-ne-DONE c a said =
    heads_fault _ (type_fault_lem a c.args.t.now c.args.h.next c.requires.2 _ c.type_fault-code.ensures c.if-code-ne-DONE.true) (omega arith) c.refused_heads.ensures

pub int_at-requires : goal.int_at-requires
int_at-requires c = let o = type_inv c.args.t.now c.args.h.next (sym c.type_fault-code.ensures ∙ c.if-code-ne-DONE.false) in omega (arith, o.fits)

pub int_at-requires-2 : goal.int_at-requires-2
int_at-requires-2 c = let o = type_inv c.args.t.now c.args.h.next (sym c.type_fault-code.ensures ∙ c.if-code-ne-DONE.false) in omega (arith, o.fits)

pub returns : goal.returns
returns c a said =
    let t = c.args.t.now in
    let at = c.args.h.next in
    let o = type_inv t at (sym c.type_fault-code.ensures ∙ c.if-code-ne-DONE.false) in
    let low = c.int_at in
    let high = c.int_at-2 in
    heads_read _ (type_read a t at c.requires.2 _ c.type_fault-code.ensures c.if-code-ne-DONE.false) refl o.fits
    (record {
      sheet = said.sheet;
      attribute = said.attribute;
      bounds = said.bounds;
      order = (word_int_at t (at + 1), word_int_at t (at + 5), o.order);
      sort = c.typed-sort.ensures ∙ ap₂ (λ (x y : ℤ). word_of Family.Integers x y) (again_same low.result low.type_inv ∙ low.ensures) (again_same high.result high.type_inv ∙ high.ensures);
    })
