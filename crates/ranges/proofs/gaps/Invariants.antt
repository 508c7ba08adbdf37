-- The gaps written, with the gaps of the ranges from k on that lie from `from` on, are the answer (`Gapping`). Assumes nothing.
use Rattle.integers.specs.Integer.{Word}
use Rattle.ranges.specs.Shown.{view}
use Rattle.ranges.specs.Spans.{gaps}
use Rattle.ranges.proofs.Gapping.{Gapping}
use Rattle.ranges.proofs.gaps.Given as goal

abbrev pub invariant-loop-k : goal.invariant-loop-k
invariant-loop-k l = record {
  word_from : Word l.from;
  going : Gapping l.n l.lo l.hi l.from l.w l.k (gaps (view l.n l.initial.lo l.initial.hi));
}
