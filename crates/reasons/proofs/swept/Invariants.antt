-- `swept`: `r` is the group and some of those who hold an element that one of `r` matches, for the elements below e all that the group itself matches.
use Rattle.reasons.proofs.Sweeps.{Sweeping}
use Rattle.reasons.proofs.swept.Given as goal

abbrev pub invariant-loop-e : goal.invariant-loop-e
invariant-loop-e l = Sweeping l.rows l.n l.w l.group l.e l.r
