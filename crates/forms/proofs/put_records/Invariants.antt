-- What stands before p, with the records of the ranges from k on, is the answer, and from p on nothing has changed. Assumes nothing.
use Rattle.std.proofs.Common.{drop}
use Rattle.ranges.specs.Shown.{view}
use Rattle.forms.proofs.Records.{Going}
use Rattle.forms.proofs.put_records.Given as goal

abbrev pub invariant-loop-k : goal.invariant-loop-k
invariant-loop-k l = Going l.initial.out l.out l.p (drop l.k (view l.n l.lo l.hi)) (view l.n l.lo l.hi)
