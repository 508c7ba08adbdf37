-- The first kind says whether a sheet is there. Assumes nothing.
use Rattle.std.proofs.Common.{refl, sym, ap, ◌∙◌, ℕ, drop, arith}
use Rattle.grammar.specs.Read.{got}
use Rattle.grammar.specs.Template.{no_heads}
use Rattle.heads.specs.Fronts.{heads_fault, heads_read}
use Rattle.heads.proofs.HeadRecords.{sheet_none, sheet_fault_lem, sheet_read, sheet_inv}
use Rattle.heads.proofs.sheet_head.Goals as goal

pub returns-then-kind_at-ne-SHEET : goal.returns-then-kind_at-ne-SHEET
returns-then-kind_at-ne-SHEET c =
    let n = c.no_heads.ensures in
    heads_read no_heads (sheet_none no_heads c.args.t.now _ c.kind_at.ensures c.if-kind_at-ne-SHEET.true ∙ ap (λ (p : ℕ). got no_heads (drop p c.args.t.now)) (sym n.here)) n.done (omega (arith, n.here)) n.said

pub returns-then-code-ne-DONE : goal.returns-then-code-ne-DONE
returns-then-code-ne-DONE c =
    heads_fault _ (sheet_fault_lem no_heads c.args.t.now _ c.kind_at.ensures c.if-kind_at-ne-SHEET.false _ c.sheet_fault-code.ensures c.if-code-ne-DONE.true) (omega arith) c.refused_heads.ensures

pub bounds-t-1 : goal.bounds-t-1
bounds-t-1 c = omega (arith, sheet_inv c.args.t.now (sym c.sheet_fault-code.ensures ∙ c.if-code-ne-DONE.false))

pub returns : goal.returns
returns c =
    let none = c.no_heads-2.ensures in
    let said = none.said in
    heads_read _ (sheet_read no_heads c.args.t.now _ c.kind_at.ensures c.if-kind_at-ne-SHEET.false _ c.sheet_fault-code.ensures c.if-code-ne-DONE.false) none.done (sheet_inv c.args.t.now (sym c.sheet_fault-code.ensures ∙ c.if-code-ne-DONE.false))
    (record { sheet = refl; attribute = said.attribute; bounds = said.bounds; order = said.order; sort = said.sort })
