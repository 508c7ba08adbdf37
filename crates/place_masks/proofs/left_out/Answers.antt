-- `left_out`: a mask that is turned round has the other places.
use Rattle.place_masks.proofs.PlaceBits.{without_bits}
use Rattle.place_masks.proofs.left_out.Goals as goal

pub returns : goal.returns
returns c e = without_bits 64 c.args.a c.args.b e c.ranges.a.fits c.ranges.b.fits
