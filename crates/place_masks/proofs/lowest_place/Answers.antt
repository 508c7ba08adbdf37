-- `lowest_place`: the digit above the trailing zeros is set.
use Rattle.masks.proofs.Masks.{lowest_bit}
use Rattle.place_masks.proofs.lowest_place.Goals as goal

pub returns : goal.returns
returns c = lowest_bit 64 c.args.places c.requires c.ranges.places.fits
