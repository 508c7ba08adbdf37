-- `spare_places`: `free` has the spare places before e.
use Rattle.masks.specs.Masks.{bit}
use Rattle.chains.specs.Chain.{Spares}
use Rattle.chains.proofs.spare_places.Given as goal

abbrev pub invariant-loop-e : goal.invariant-loop-e
invariant-loop-e l = Spares l.w l.from l.e (bit l.free)
