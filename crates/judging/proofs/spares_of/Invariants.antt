-- `spares_of`: `spares` has the spare elements before e.
use Rattle.judging.specs.Reach.{SparesOf}
use Rattle.judging.proofs.spares_of.Given as goal

abbrev pub invariant-loop-e : goal.invariant-loop-e
invariant-loop-e l = SparesOf l.w l.e l.spares
