-- `grown`: the group lies around those who wait and inside every closed set around them; it is closed where the last sweep added nothing. The measure is the
-- number of members outside, and a turn.
use Rattle.reasons.proofs.Sweeps.{Growing, turns_left}
use Rattle.reasons.proofs.grown.Given as goal

abbrev pub invariant-loop-more : goal.invariant-loop-more
invariant-loop-more l = Growing l.rows l.n l.w l.waiting l.group l.more

abbrev pub decreases-loop-more : goal.decreases-loop-more
decreases-loop-more l = turns_left l.group l.more
