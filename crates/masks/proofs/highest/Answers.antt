-- `highest`: the digit of the greatest power of two that is no more is set.
use Rattle.masks.proofs.Masks.{highest_log}
use Rattle.masks.proofs.highest.Goals as goal

pub returns : goal.returns
returns c = highest_log 32 c.args.mask c.ilog2.result c.ilog2.ensures.bound c.ilog2.ensures.power_le c.ilog2.ensures.next_power_gt
