-- What is written lies within the members. The measure is the members that are left.
use Rattle.std.proofs.Common.{◌-◌, ◌≤◌}
use Rattle.assign_examples.proofs.ring.Given as goal

abbrev pub invariant-loop-m : goal.invariant-loop-m
invariant-loop-m l = l.m ≤ l.n

abbrev pub decreases-loop-m : goal.decreases-loop-m
decreases-loop-m l = l.n - l.m
