-- `highest_place`: the digit of the greatest power of two that is no more is set.
use Rattle.masks.proofs.Masks.{highest_log}
use Rattle.place_masks.proofs.highest_place.Goals as goal

pub returns : goal.returns
returns c = highest_log 64 c.args.places c.ilog2.result c.ilog2.ensures.bound c.ilog2.ensures.power_le c.ilog2.ensures.next_power_gt
