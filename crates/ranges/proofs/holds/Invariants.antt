-- None of the ranges before k holds x (`Seeking`). Assumes nothing.
use Rattle.ranges.proofs.Steps.{Seeking}
use Rattle.ranges.proofs.holds.Given as goal

abbrev pub invariant-loop-k : goal.invariant-loop-k
invariant-loop-k l = Seeking l.n l.lo l.hi l.x l.k
