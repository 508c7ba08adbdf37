-- `along_spares`: the places exactly as many spare elements on as were gone, and then those least to as many on.
use Rattle.judging.specs.Reach.{Along}
use Rattle.judging.proofs.reach.along_spares.Given as goal

abbrev pub invariant-loop : goal.invariant-loop
invariant-loop l = Along l.w l.reach l.counter l.counter l.r

abbrev pub invariant-loop-2 : goal.invariant-loop-2
invariant-loop-2 l = Along l.w l.reach l.least l.counter l.r
