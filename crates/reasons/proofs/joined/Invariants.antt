-- `joined`: `r` has the elements below e that one of the group matches.
use Rattle.reasons.proofs.Ones.{Joining}
use Rattle.reasons.proofs.joined.Given as goal

abbrev pub invariant-loop-e : goal.invariant-loop-e
invariant-loop-e l = Joining l.rows l.group l.e l.r
