-- `span`: what is below one end and not below the other.
use Rattle.masks.proofs.Masks.{span_bits}
use Rattle.masks.proofs.span.Goals as goal

pub returns : goal.returns
returns c k = span_bits c.below.result c.below-2.result _ _ k c.requires.0 c.below.ensures c.below-2.ensures
