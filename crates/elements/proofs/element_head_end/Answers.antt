-- The kind says which record it is. Assumes nothing.
use Rattle.std.proofs.Common.{sym, arith}
use Rattle.elements.proofs.Records.{fault_said, head_none, group_head_lem, leaf_head_lem}
use Rattle.elements.proofs.element_head_end.Goals as goal

pub returns-then-at-t : goal.returns-then-at-t
returns-then-at-t g c f leaves h = fault_said _ _ _ 3 _ c.refusal.ensures (head_none leaves c.args.t.now c.args.at (omega arith)) (omega arith) (omega arith)

pub returns-then-is_group : goal.returns-then-is_group
returns-then-is_group g c f leaves h = group_head_lem leaves c.args.t.now c.args.at (omega arith) _ (sym c.if-is_group.ensures) (c.group_head_end.ensures f)

pub returns : goal.returns
returns g c f leaves h = leaf_head_lem leaves c.args.t.now c.args.at (omega arith) _ (sym c.if-is_group.ensures) (h c.leaf_end.result c.leaf_end.ensures)
