-- `after_spares`: moved by the least number of elements, then spread by the rest.
use Rattle.std.proofs.Common.{◌-◌, arith}
use Rattle.place_masks.proofs.Spreads.{after_none, after_moved}
use Rattle.place_masks.proofs.after_spares.Goals as goal

pub returns-then-least-gt63 : goal.returns-then-least-gt63
returns-then-least-gt63 c = after_none _ _ (λ e l a. let n = a.near in omega arith)

pub returns-then-most-least : goal.returns-then-most-least
returns-then-most-least c = after_none _ _ (λ e l a. let n = a.near in let f = a.far in omega arith)

pub returns-then-most-least-ge63 : goal.returns-then-most-least-ge63
returns-then-most-least-ge63 c = let a = c.args in after_moved {more = a.most - a.least} _ (omega arith) c.moved_up-first.ensures (c.all_above.ensures (a.most - a.least) (omega arith))

pub returns : goal.returns
returns c = after_moved _ (omega arith) c.moved_up-first.ensures c.spread_up.ensures
