-- `items::record::kind_at` meets its contract: past the end nothing is left. Assumes nothing.
use mathlib.Core.Path.{sym, ap}
use mathlib.Core.List.{List}
use Prim.Native.Nat.{ℕ}
use lib.ListN.{get_or, drop_of_length-le}
use Rattle.grammar.proofs.RecordParts.{kind_at}
use borrow.Author.Rules.{rules}
use Rattle.items.proofs.record.kind_at.Statement.{statement}
use Rattle.items.proofs.record.kind_at.Tie as tie

shared_slice_read_result : tie.Need-bounds-t-at
shared_slice_read_result c = search rules

returns : tie.Need-returns-then-at-t
returns c =
    let a = c.before.before.args in
    sym (kind_at a.t.now a.at)

returns_2 : tie.Need-returns-else-at-t
returns_2 c =
    let a = c.before.args in
    sym (ap (λ (l : List ℕ). get_or l 0 0) (drop_of_length-le a.t.now {i = a.at} c.if-at-t.false))

pub kind_at_spec : {M : Type 1} → statement M
kind_at_spec = tie.close (tie.spec shared_slice_read_result returns returns_2)
