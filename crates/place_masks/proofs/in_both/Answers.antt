-- `in_both`: `bit_and_lem` says which bits an and has.
use Rattle.masks.proofs.Masks.{bit_and_lem}
use Rattle.place_masks.proofs.in_both.Goals as goal

pub returns : goal.returns
returns c e = bit_and_lem c.args.a c.args.b e
