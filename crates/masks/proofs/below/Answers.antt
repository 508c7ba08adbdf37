-- `below`: a power of two less one has all bits below it.
use Rattle.std.proofs.Common.{arith}
use Rattle.masks.proofs.Masks.{below_bits}
use Rattle.masks.proofs.below.Goals as goal

pub returns : goal.returns
returns c i = below_bits c.args.k i (omega (arith, c.requires))
