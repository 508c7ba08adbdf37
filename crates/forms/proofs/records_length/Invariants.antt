-- What is counted, with what the ranges from k on count, is the answer, and each range passed counted 9 at most. Assumes nothing.
use Rattle.std.proofs.Common.{◌≡◌, ◌+◌, ◌*◌, ◌≤◌, drop}
use Rattle.ranges.specs.Shown.{view}
use Rattle.forms.specs.Form.{records_length}
use Rattle.forms.proofs.records_length.Given as goal

abbrev pub invariant-loop-k : goal.invariant-loop-k
invariant-loop-k l = record {
  few : l.length ≤ 9 * l.k;
  counted : l.length + records_length (drop l.k (view l.n l.lo l.hi)) ≡ records_length (view l.n l.lo l.hi);
}
