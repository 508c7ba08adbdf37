-- `quick`. The loop, `GreedyTo`: the elements before e have the least free member each, and no assignment that is as w so far has a smaller byte.
use Rattle.masks.specs.Masks.{bit}
use Rattle.rows.specs.Rows.{may}
use Rattle.assign.proofs.LeastFree.{GreedyTo}
use Rattle.assign.proofs.quick.quick.Given as goal

abbrev pub invariant-loop-e : goal.invariant-loop-e
invariant-loop-e l = GreedyTo (may l.rows) l.first l.k l.from l.to l.w (bit l.left) l.e
