-- `with_place`: `bit_with` says what an or with a power of two does.
use Rattle.masks.proofs.Masks.{bit_with}
use Rattle.masks.proofs.with_place.Goals as goal

pub returns : goal.returns
returns c = bit_with c.args.places c.args.p c.requires
