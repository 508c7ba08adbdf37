-- `lowest`: the digit above the trailing zeros is set.
use Rattle.masks.proofs.Masks.{lowest_bit}
use Rattle.masks.proofs.lowest.Goals as goal

pub returns : goal.returns
returns c = lowest_bit 32 c.args.mask c.requires c.ranges.mask.fits
