-- `one_end`: m stands there, or another does, or there is no element left.
use Rattle.std.proofs.Common.{arith}
use Rattle.judging.proofs.OneMember.{one_found, one_missed}
use Rattle.judging.proofs.reach.one_end.Goals as goal

pub returns-then-x-m : goal.returns-then-x-m
returns-then-x-m c b is = one_found _ _ _ b is c.requires.0 c.if-from-w.true c.if-x-m.true c.with_place.ensures

pub returns-else-x-m : goal.returns-else-x-m
returns-else-x-m c b is = one_missed _ _ _ b is c.requires.0 _ (λ l q. c.if-x-m.false q)

pub returns-else-from-w : goal.returns-else-from-w
returns-else-from-w c b is = one_missed _ _ _ b is c.requires.0 _ (λ l q. omega (arith, c.if-from-w.false))
