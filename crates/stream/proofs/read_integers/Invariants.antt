-- The first i integers stand in front of xs, zeros after them, and those from p on are the others. Assumes nothing.
use Rattle.stream.proofs.Lists.{Reading}
use Rattle.stream.proofs.read_integers.Given as goal

abbrev pub invariant-loop-i : goal.invariant-loop-i
invariant-loop-i l = Reading l.s l.at l.n l.xs l.p l.i
