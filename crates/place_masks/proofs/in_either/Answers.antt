-- `in_either`: `bit_or_lem` says which bits an or has.
use Rattle.masks.proofs.Masks.{bit_or_lem}
use Rattle.place_masks.proofs.in_either.Goals as goal

pub returns : goal.returns
returns c e = bit_or_lem c.args.a c.args.b e
