-- `extend`: a block with no members goes along spare elements.
use Rattle.judging.proofs.SpareElements.{along_extended}
use Rattle.judging.proofs.ReachedPlaces.{extended_end}
use Rattle.judging.proofs.reach.extend.Goals as goal

pub returns-then-b-eq0 : goal.returns-then-b-eq0
returns-then-b-eq0 c bs g = let p = c.requires in extended_end g (along_extended _ _ _ p.1 p.2 _ _ c.if-b-eq0.true p.3 c.along_spares.ensures)

pub returns : goal.returns
returns c bs g = extended_end g c.extend_by_members.ensures
