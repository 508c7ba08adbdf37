-- The first k ranges are read, up to p, and whatever ranges the bytes may be the records of, those from k on stand from p on (`Going`). Assumes nothing.
use Rattle.integers.specs.Integer.{Word}
use Rattle.form_reader.proofs.Ranges.{Going}
use Rattle.form_reader.proofs.ranges_at.Given as goal

abbrev pub invariant-loop-k : goal.invariant-loop-k
invariant-loop-k l = record {
  word_last : Word l.last;
  going : Going l.t l.at l.n l.lower l.upper l.lo l.hi l.p l.last l.k;
}
