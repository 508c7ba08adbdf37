-- `spread_down`: a turn moves by at most one more than is done, so that no place between is left out.
use Rattle.std.proofs.Common.{arith}
use Rattle.place_masks.proofs.Spreads.{before_wider}
use Rattle.place_masks.proofs.spread_down.Goals as goal

pub loop-done-preserved : goal.loop-done-preserved
loop-done-preserved c =
    let s = c.lesser-s.ensures in
    (omega arith, before_wider c.lesser-s.result c.moved_down.result (omega arith) c.moved_down.ensures c.in_either-r.ensures c.loop-done.invariant.1)
