-- `moved_down`: `bit_shr` says which bits a shift leaves.
use Rattle.masks.proofs.Shifted.{bit_shr}
use Rattle.place_masks.proofs.moved_down.Goals as goal

pub returns : goal.returns
returns c e = bit_shr c.args.places c.args.s e
