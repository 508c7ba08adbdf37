-- `all_below`: as many places as are not leading zeros.
use Rattle.std.proofs.Common.{arith}
use Rattle.place_masks.proofs.PlaceBits.{bit_pos}
use Rattle.place_masks.proofs.Spreads.{before_none, before_all}
use Rattle.place_masks.proofs.all_below.Goals as goal

pub returns-then-places-eq0 : goal.returns-then-places-eq0
returns-then-places-eq0 c more w = before_none 0 more (λ p a. let z = bit_pos c.args.places a.place a.here in omega arith)

pub returns : goal.returns
returns c more w = before_all c.args.places more (omega arith) c.ranges.places.fits w
