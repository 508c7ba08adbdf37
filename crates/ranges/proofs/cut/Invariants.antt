-- What is written, with what is cut of the ranges from k on, is the answer (`Cutting`). Assumes nothing.
use Rattle.ranges.specs.Shown.{view}
use Rattle.ranges.specs.Spans.{cut_to}
use Rattle.ranges.proofs.Cutting.{Cutting}
use Rattle.ranges.proofs.cut.Given as goal

abbrev pub invariant-loop-k : goal.invariant-loop-k
invariant-loop-k l = Cutting l.n l.lo l.hi l.lower l.upper l.w l.k (cut_to l.lower l.upper (view l.n l.initial.lo l.initial.hi))
