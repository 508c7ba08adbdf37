-- The ranges gathered hold what the members passed match, are two at most for each leaf passed, and whatever the members to come add completes the
-- whole (`Walking`). The measure is the depth left, twice, and one more for `any_of`, which calls `set_of` at the same depth. Assumes nothing.
use Rattle.std.proofs.Common.{◌+◌, ◌-◌, ◌*◌}
use Rattle.normal.proofs.Turns.{Walking}
use Rattle.normal.proofs.walk.+any_of_set_of.Given as goal

abbrev pub decreases-any_of : goal.decreases-any_of
decreases-any_of l = 2 * l.left + 1

abbrev pub decreases-set_of : goal.decreases-set_of
decreases-set_of l = 2 * l.left

abbrev pub invariant-any_of-loop : goal.invariant-any_of-loop
invariant-any_of-loop l = Walking l.t l.from l.n l.left l.initial.lo l.initial.hi l.lo l.hi l.s (l.n - l.counter)
