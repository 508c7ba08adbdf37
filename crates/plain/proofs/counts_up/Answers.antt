-- `counts_up`: where all bytes are looked at, the flag says whether they are the numbers.
use Rattle.std.proofs.Common.{arith}
use Rattle.plain.proofs.UpFrom.{counted_end}
use Rattle.plain.proofs.counts_up.Goals as goal

pub returns : goal.returns
returns c = counted_end _ _ _ _ (omega arith) c.loop-e.invariant
