-- `all_above`: every place, cut off before the least.
use Rattle.std.proofs.Common.{arith}
use Rattle.place_masks.proofs.PlaceBits.{bit_pos}
use Rattle.place_masks.proofs.Spreads.{after_none, after_all}
use Rattle.place_masks.proofs.all_above.Goals as goal

pub returns-then-places-eq0 : goal.returns-then-places-eq0
returns-then-places-eq0 c more w = after_none 0 more (λ e l a. let z = bit_pos c.args.places a.place a.here in omega arith)

pub returns : goal.returns
returns c more w = after_all more c.lowest_place.ensures c.from_on.ensures w
