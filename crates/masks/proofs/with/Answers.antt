-- `with`: `bit_with` says what an or with a power of two does.
use Rattle.masks.proofs.Masks.{bit_with}
use Rattle.masks.proofs.with.Goals as goal

pub returns : goal.returns
returns c = bit_with c.args.mask c.args.k c.requires
