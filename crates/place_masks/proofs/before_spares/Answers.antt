-- `before_spares`: moved by the least number of elements, then spread by the rest.
use Rattle.std.proofs.Common.{◌-◌, arith}
use Rattle.masks.proofs.Masks.{bit_inside}
use Rattle.place_masks.proofs.Spreads.{before_none, before_moved}
use Rattle.place_masks.proofs.before_spares.Goals as goal

pub returns-then-least-gt63 : goal.returns-then-least-gt63
returns-then-least-gt63 c = before_none _ _ (λ p a. let n = a.near in let f = a.far in let z = bit_inside 64 c.args.places a.place c.ranges.places.fits a.here in omega arith)

pub returns-then-most-least : goal.returns-then-most-least
returns-then-most-least c = before_none _ _ (λ p a. let n = a.near in let f = a.far in omega arith)

pub returns-then-most-least-ge63 : goal.returns-then-most-least-ge63
returns-then-most-least-ge63 c = let a = c.args in before_moved {more = a.most - a.least} _ (omega arith) c.moved_down-last.ensures (c.all_below.ensures (a.most - a.least) (omega arith))

pub returns : goal.returns
returns c = before_moved _ (omega arith) c.moved_down-last.ensures c.spread_down.ensures
