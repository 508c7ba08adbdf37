-- `moved_up`: `moved_up` of the lemmas says which bits a shift makes.
use Rattle.place_masks.proofs.PlaceBits.{moved_up}
use Rattle.place_masks.proofs.moved_up.Goals as goal

pub returns : goal.returns
returns c e = moved_up 64 c.args.places c.args.s e
