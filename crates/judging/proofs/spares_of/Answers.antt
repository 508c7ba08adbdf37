-- `spares_of`: before the first element none is spare.
use Rattle.judging.proofs.SpareElements.{spares_none}
use Rattle.judging.proofs.spares_of.Goals as goal

pub loop-e-init : goal.loop-e-init
loop-e-init c = spares_none _
