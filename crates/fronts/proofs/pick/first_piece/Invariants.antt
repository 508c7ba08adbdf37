-- `first_piece`. The loop: the list is the first so far (`Picking`). The measure is how many places are left.
use Rattle.facts.specs.Counting.{count}
use Rattle.masks.specs.Masks.{bit}
use Rattle.rows.specs.Rows.{may}
use Rattle.fronts.specs.Picks.{Picking}
use Rattle.fronts.proofs.pick.first_piece.Given as goal

abbrev pub invariant-loop-s : goal.invariant-loop-s
invariant-loop-s l = Picking (may l.rows) l.b l.ends l.places l.best l.s.to l.s.rest

abbrev pub decreases-loop-s : goal.decreases-loop-s
decreases-loop-s l = count (bit l.s.rest) 64
