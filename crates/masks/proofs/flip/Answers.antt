-- `flip`: `bit_flip` says what an exclusive or with a power of two does.
use Rattle.masks.proofs.Masks.{bit_flip}
use Rattle.masks.proofs.flip.Goals as goal

pub returns : goal.returns
returns c = bit_flip c.args.mask c.args.k c.requires
