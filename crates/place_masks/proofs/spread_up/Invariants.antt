-- `spread_up`: r has the places at most `done` after one of these. The measure is how far is left.
use Rattle.std.proofs.Common.{◌≤◌, ◌-◌}
use Rattle.place_masks.specs.Places.{After}
use Rattle.place_masks.proofs.spread_up.Given as goal

abbrev pub invariant-loop-done : goal.invariant-loop-done
invariant-loop-done l = (l.done ≤ l.more) × After l.places 0 l.done l.r

abbrev pub decreases-loop-done : goal.decreases-loop-done
decreases-loop-done l = l.more - l.done
