-- `fresh`: each test is a part of `Fresh`.
use Rattle.std.proofs.Common.{arith}
use Rattle.judging.proofs.PieceTest.{fresh_low, fresh_high, fresh_any}
use Rattle.judging.proofs.reach.fresh.Goals as goal

pub returns-then-x-b : goal.returns-then-x-b
returns-then-x-b c e = fresh_low c.if-x-b.true

pub returns-then-b-x : goal.returns-then-b-x
returns-then-b-x c e = fresh_high c.if-b-x.true

pub returns : goal.returns
returns c e = fresh_any (omega arith) (omega arith) c.has.ensures
