-- `piece_ends`: the bytes from .. to - 1 are right, with no member twice, the members that stand there are these, and the places up to `to` at
-- which a piece ends are found.
use Rattle.std.proofs.Common.{◌+◌}
use Rattle.judging.specs.Reach.{any_pair, Good, Ends}
use Rattle.judging.proofs.reach.piece_ends.Given as goal

abbrev pub invariant-loop-to : goal.invariant-loop-to
invariant-loop-to l = Good any_pair l.b l.from l.to l.w l.members × Ends any_pair l.b l.from (l.to + 1) l.w l.fn.ends l.found
