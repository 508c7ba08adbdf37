-- The bytes before the index stand at the place `at`, a space in front of each, and p is the place after them. Assumes nothing.
use Rattle.lines.proofs.Lines.{Each}
use Rattle.lines.proofs.put_each.Given as goal

abbrev pub invariant-loop-b : goal.invariant-loop-b
invariant-loop-b l = Each l.initial.out l.bytes l.at l.out l.p l.b-index
