-- `meets`: a mask that is not 0 has a lowest bit.
use Rattle.masks.proofs.Masks.{meets_is}
use Rattle.masks.proofs.meets.Goals as goal

pub returns : goal.returns
returns c = meets_is c.args.a c.args.b c.ranges.a.fits
