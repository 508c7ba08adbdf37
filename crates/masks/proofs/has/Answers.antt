-- `has`: a shift and a remainder are what `bit` says.
use Rattle.std.proofs.Common.{refl}
use Rattle.masks.specs.Masks.{bit}
use Rattle.masks.proofs.has.Goals as goal

pub returns : goal.returns
unfolding bit
returns c = refl
