-- `spread_up`: a turn moves by at most one more than is done, so that no place between is left out.
use Rattle.std.proofs.Common.{arith}
use Rattle.place_masks.proofs.Spreads.{after_start, after_wider}
use Rattle.place_masks.proofs.spread_up.Goals as goal

pub loop-done-init : goal.loop-done-init
loop-done-init c = (omega arith, after_start _ c.ranges.places.fits)

pub loop-done-preserved : goal.loop-done-preserved
loop-done-preserved c =
    let s = c.lesser-s.ensures in
    (omega arith, after_wider c.lesser-s.result c.moved_up.result (omega arith) c.moved_up.ensures c.in_either-r.ensures c.loop-done.invariant.1)
