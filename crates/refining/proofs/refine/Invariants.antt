-- `refine`: x is an assignment, and every assignment is as x before e, or comes later for a place before e; `free` has its spare places from e on, and `left` the
-- members that stand nowhere before e.
use Rattle.std.proofs.Common.{◌≤◌}
use Rattle.masks.specs.Masks.{bit}
use Rattle.rows.specs.Rows.{picks}
use Rattle.chains.specs.Chain.{Spares}
use Rattle.refining.specs.Refine.{Open, Leads}
use Rattle.refining.proofs.refine.Given as goal

abbrev pub invariant-loop-e : goal.invariant-loop-e
invariant-loop-e l =
    (l.e ≤ l.to) × Spares l.x l.e l.to (bit l.free) × Open l.first l.k l.x l.e (bit l.left) × Leads (picks l.columns) l.first l.k l.from l.to l.x l.e
