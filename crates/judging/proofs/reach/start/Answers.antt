-- `start`: the place 0 is reached, and no other.
use Rattle.judging.proofs.ReachedPlaces.{reached_start}
use Rattle.judging.proofs.reach.start.Goals as goal

pub returns : goal.returns
returns c = reached_start c.with_place.ensures
