-- `from_on`: moved down and up again, the places before p are lost.
use Rattle.std.proofs.Common.{arith}
use Rattle.place_masks.proofs.PlaceBits.{cut_none, cut_from}
use Rattle.place_masks.proofs.from_on.Goals as goal

pub returns-then-p-gt63 : goal.returns-then-p-gt63
returns-then-p-gt63 c e = cut_none c.args.places c.args.p e c.ranges.places.fits (omega arith)

pub returns : goal.returns
returns c e = cut_from 64 c.args.places c.args.p e c.ranges.places.fits
