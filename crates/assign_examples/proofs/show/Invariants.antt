-- What is written lies within the line. The measure is the letters that are left.
use Rattle.std.proofs.Common.{◌-◌, ◌≤◌}
use Rattle.assign_examples.proofs.show.Given as goal

abbrev pub invariant-loop-i : goal.invariant-loop-i
invariant-loop-i l = l.i ≤ 32

abbrev pub decreases-loop-i : goal.decreases-loop-i
decreases-loop-i l = 32 - l.i
