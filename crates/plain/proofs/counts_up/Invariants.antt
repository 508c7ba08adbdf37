-- `counts_up`: the flag says whether there are as many bytes, and those before e are their own places.
use Rattle.plain.proofs.UpFrom.{Counted}
use Rattle.plain.proofs.counts_up.Given as goal

abbrev pub invariant-loop-e : goal.invariant-loop-e
invariant-loop-e l = Counted l.w l.count l.e l.up
