-- `extend_by_members`: the ends of the pieces that begin at a reached place which is not left are found. The measure is how many places are left.
use Rattle.facts.specs.Counting.{count}
use Rattle.masks.specs.Masks.{bit}
use Rattle.judging.specs.Reach.{any_pair}
use Rattle.judging.proofs.ReachedPlaces.{Extending}
use Rattle.judging.proofs.reach.extend_by_members.Given as goal

abbrev pub invariant-loop-left : goal.invariant-loop-left
invariant-loop-left l = Extending any_pair l.b l.reach l.w l.left l.next

abbrev pub decreases-loop-left : goal.decreases-loop-left
decreases-loop-left l = count (bit l.left) 64
