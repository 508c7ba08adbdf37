-- `first_containment`. The loop, `LeastTo`: the elements before e have their least member each, and the others none yet.
use Rattle.rows.specs.Rows.{may}
use Rattle.sheets.proofs.LeastMembers.{LeastTo}
use Rattle.sheets.proofs.first_containment.Given as goal

abbrev pub invariant-loop-e : goal.invariant-loop-e
invariant-loop-e l = LeastTo (may l.rows) l.k l.w l.e
