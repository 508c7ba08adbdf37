-- `spread_down`: r has the places at most `done` before one of these. The measure is how far is left.
use Rattle.std.proofs.Common.{◌≤◌, ◌-◌}
use Rattle.place_masks.specs.Places.{Before}
use Rattle.place_masks.proofs.spread_down.Given as goal

abbrev pub invariant-loop-done : goal.invariant-loop-done
invariant-loop-done l = (l.done ≤ l.more) × Before l.places 0 l.done l.r

abbrev pub decreases-loop-done : goal.decreases-loop-done
decreases-loop-done l = l.more - l.done
